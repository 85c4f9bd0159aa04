-- Opening a store.
use Rattle.std.specs.Prelude.{ℕ, cond, None, Some}
use Rattle.refusal.specs.declared.Refusal.TheVariants.{Window}
use Rattle.chunker.specs.Scanner.{window_allowed}
use Rattle.store.specs.declared.Head.{Head}
use Rattle.store.specs.declared.Opened.{Opened}

-- "A fresh head is w, 0, 0"
abbrev pub fresh : ℕ → Head
fresh w = record { window = w; chunks = record { 0 = 0 }; filled = record { 0 = 0 } }

-- "Opening a store tests 1", "A refused opening gives all zeros"
unfoldable pub opened : ℕ → Opened
opened w =
    cond (window_allowed w)
    (record { refusal = None; head = fresh w })
    (record { refusal = Some Window; head = fresh 0 })

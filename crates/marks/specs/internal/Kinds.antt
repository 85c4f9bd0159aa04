-- What the kind of a mark says of its code.
use Rattle.std.specs.Prelude.{ℕ, ◌≡◌, ◌<◌}
use Rattle.marks.specs.declared.Kind.{Kind}
use Rattle.marks.specs.declared.Kind.TheVariants.{Stored, Repeat, First}
use Rattle.marks.specs.Marks.{repeat_base, repeat_code, first_base, first_code}

-- the code is that of the kind, with the number or the place that it names
abbrev pub Says : Kind → ℕ → Type 0
Says (Stored number) code = (code ≡ number) × (code < repeat_base)
Says (Repeat place) code = (code ≡ repeat_code place) × (code < first_base)
Says (First place) code = code ≡ first_code place

-- What becomes of the index over a list of events: "a take enters each new piece at the front of its chain, a refused one
-- leaves the index, a quote only reads".
use Rattle.std.specs.Prelude.{ℕ, ◌+◌, ◌≡◌, List, length}
use Rattle.refusal.specs.Number.{number_of}
use Rattle.gear.specs.Gear.{chains}
use Rattle.directory.specs.Entry.{entries}
use Rattle.index.specs.Index.{Meets, fresh_index, enter_all}
use Rattle.admission.specs.Take.{quotation_of}
use Rattle.promises.specs.History.{Event, State, holds, quote_in, take_in, before}

-- a refusal's number is neither of the index's
abbrev pub NotIndex : ℕ → Type 0
NotIndex refusal = (refusal ≡ 11 → ⊥) × (refusal ≡ 12 → ⊥)

-- before place j of a list the index has its length, its chains "meet every piece just once under its own sum, and nothing
-- else", it is what takes make of a fresh one, and neither a quote nor a take of any job reports 11 or 12
pub record IndexStays (s : State) (events : List Event) (j : ℕ) : Type 0 where
  pub sized : length (before s events j).index ≡ chains + entries (before s events j).directory
  pub met : Meets (before s events j).index (holds (before s events j))
  -- the index is that of the store's chunks, entered one after another into a fresh one
  pub in_order : (before s events j).index ≡ enter_all (fresh_index (entries s.directory)) 0 (holds (before s events j))
  pub quotes : (job recipe : List ℕ) → NotIndex (number_of (quote_in (before s events j) job recipe).answer.refusal)
  pub takes : (job recipe : List ℕ)
      → NotIndex (number_of (quotation_of (take_in (before s events j) job recipe)).answer.refusal)

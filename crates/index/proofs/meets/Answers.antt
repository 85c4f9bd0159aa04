-- `index::meets` meets its contract.
use mathlib.Core.Path.{sym, ◌∙◌}
use Rattle.index.proofs.laws.Grounds.{testable, ordered_meets}
use Rattle.index.proofs.meets.Goals as goal

pub ordered-requires-clause-chunks_in_bounds : goal.ordered-requires-clause-chunks_in_bounds
ordered-requires-clause-chunks_in_bounds c =
    (testable _ _ _ _ c.requires.allowed c.requires.directory_value c.requires.directory_len_bound).room

pub ordered-requires-clause-chunks_le_no_number : goal.ordered-requires-clause-chunks_le_no_number
ordered-requires-clause-chunks_le_no_number c =
    (testable _ _ _ _ c.requires.allowed c.requires.directory_value c.requires.directory_len_bound).few

pub along_all-requires-clause-entries_in : goal.along_all-requires-clause-entries_in
along_all-requires-clause-entries_in c =
    (testable _ _ _ _ c.requires.allowed c.requires.directory_value c.requires.directory_len_bound).entries

pub along_all-requires-clause-count_in_bounds : goal.along_all-requires-clause-count_in_bounds
along_all-requires-clause-count_in_bounds c =
    (testable _ _ _ _ c.requires.allowed c.requires.directory_value c.requires.directory_len_bound).room

pub along_all-requires-clause-count_le_no_number :
    goal.along_all-requires-clause-count_le_no_number
along_all-requires-clause-count_le_no_number c =
    (testable _ _ _ _ c.requires.allowed c.requires.directory_value c.requires.directory_len_bound).few

pub returns-then-ordered : goal.returns-then-ordered
returns-then-ordered c =
    c.if-ordered.true
    ∙ ordered_meets _ _ _ _ c.requires.allowed c.requires.directory_value c.requires.directory_len_bound
    (sym c.ordered.ensures ∙ c.if-ordered.true)

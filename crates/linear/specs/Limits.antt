-- How far the code goes: so many rows, and so many unknowns, at most (sixteen rows of sixteen bits); and how wide the entries of
-- its list are. Assumes nothing.
use Rattle.std.specs.Prelude.{ℕ}

abbrev pub places : ℕ
places = 16

-- the bits of an entry of the list of all solutions
abbrev pub width : ℕ
width = 16

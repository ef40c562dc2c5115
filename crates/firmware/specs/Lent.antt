-- How a call for C answers: by a number, and in the lists that its caller lends. Assumes nothing.
use Rattle.std.specs.Prelude.{◌≢◌, Result, Ok, Err, Bool, true, false, ◌&&◌, List, [], ◌∷◌, ◌++◌, ℕ, zero, suc, leb, length, drop}
use Rattle.field.specs.Refusal.{Outcome, turned_down, gives}
use Rattle.field.specs.declared.refused.Refusal.{Refusal}
use Rattle.field.specs.Answers.{number_of}
use Rattle.linear.specs.Limits.{places}
use Rattle.roots.specs.Limits.{most_roots}
use Rattle.affine.specs.Calls.{Space}
use Rattle.frames.specs.Limits.{answer_room}

-- a lent list has room for n values
abbrev pub fits : ℕ → List ℕ → Bool
fits n list = leb n (length list)

-- 7 where a lent list has no room for its values, as a listing is turned down by 7 where its list is too short (01)
abbrev pub room_number : Bool → ℕ
room_number true = 0
room_number false = 7

-- the number that the call is turned down by, the first that applies, 7 after all others; else 0
abbrev pub returned : {A : Type 0} → Outcome A → Bool → ℕ
returned (turned_down n) room = n
returned (gives v) room = room_number room

-- the number that C is told: 0 where the call has done what it does
abbrev pub status : Result (Unit {0}) Refusal → ℕ
status (Ok u) = 0
status (Err r) = number_of r

-- what stands in a lent list after a call that returned this number: after 0 the values, "entries after them stay untouched"; after any
-- other "no lent entry is touched"
abbrev pub after : ℕ → List ℕ → List ℕ → List ℕ
after zero values list = values ++ drop (length values) list
after (suc n) values list = list

-- the one value of a call
abbrev pub value_of : Outcome ℕ → List ℕ
value_of (turned_down n) = []
value_of (gives v) = v ∷ []

-- "four places for roots and four for multiplicities", and one for how many roots there are
abbrev pub roots_fit : List ℕ → List ℕ → List ℕ → Bool
roots_fit count roots multiplicities = fits most_roots roots && (fits most_roots multiplicities && fits 1 count)

abbrev digit : Bool → ℕ
digit true = 1
digit false = 0

-- "found or not; k; the base": found is 1, not found 0
abbrev pub space_values : Outcome Space → ℕ → List ℕ
space_values (turned_down n) base = []
space_values (gives s) base = digit s.found ∷ s.dimension ∷ base ∷ []

-- "and k directions in sixteen places"
abbrev pub space_fits : List ℕ → List ℕ → Bool
space_fits space directions = fits 3 space && fits places directions

-- the answer's characters, and how many they are
abbrev pub line_fits : List ℕ → List ℕ → Bool
line_fits answer count = fits answer_room answer && fits 1 count

-- no call is turned down by 0
abbrev pub Refuses : {A : Type 0} → Outcome A → Type 0
Refuses (turned_down n) = n ≢ 0
Refuses (gives v) = Unit {0}

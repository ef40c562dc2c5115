-- What is answered to a frame line. Assumes nothing.
use Rattle.std.specs.Prelude.{Bool, true, false, List, [], ◌∷◌, ◌++◌, ℕ, ◌≤◌, eqb, get_or}
use Rattle.field.specs.Refusal.{refusal, Outcome, turned_down, gives, answer_by}
use Rattle.linear.specs.Limits.{places}
use Rattle.affine.specs.Calls as affine
use Rattle.roots.specs.Limits.{most_roots}
use Rattle.roots.specs.Calls as roots
use Rattle.frames.specs.Frame.{kind_of, polynomial_of, coefficients_of, line_tests}
use Rattle.frames.specs.Text.{text, element_bytes, up_to}

-- "for each root 2 bytes and 1 byte of multiplicity"
abbrev pub root_bytes : List ℕ → List ℕ → ℕ → List ℕ
root_bytes rs ks i = element_bytes (get_or rs i 0) ++ get_or ks i 0 ∷ []

abbrev pub direction_bytes : List ℕ → ℕ → List ℕ
direction_bytes ds i = element_bytes (get_or ds i 0)

-- "turned down: kind, number. Kind 01 solved: 01, 00, count, then for each root .."
abbrev pub roots_said : Outcome ℕ → List ℕ → List ℕ → List ℕ
roots_said (turned_down n) rs ks = 1 ∷ n ∷ []
roots_said (gives k) rs ks = 1 ∷ 0 ∷ k ∷ up_to (root_bytes rs ks) k

abbrev pub roots_bytes : roots.Answer → List ℕ
roots_bytes a = roots_said a.says a.roots a.multiplicities

-- "found 00 or 01"
abbrev pub found_byte : Bool → ℕ
found_byte true = 1
found_byte false = 0

-- "kind 02 solved: 02, 00, found 00 or 01, k, base in 2 bytes, directions in 2 bytes each"
abbrev pub affine_said : Outcome affine.Space → ℕ → List ℕ → List ℕ
affine_said (turned_down n) b ds = 2 ∷ n ∷ []
affine_said (gives s) b ds = 2 ∷ 0 ∷ found_byte s.found ∷ s.dimension ∷ element_bytes b ++ up_to (direction_bytes ds) s.dimension

abbrev pub affine_bytes : affine.Answer → List ℕ
affine_bytes a = affine_said a.says a.base a.directions

-- the call that a kind asks for: "01 degree up to 4, 02 affine"
abbrev pub called_bytes : Bool → ℕ → List ℕ → List ℕ
called_bytes true p cs = roots_bytes (roots.solve_answer p cs)
called_bytes false p cs = affine_bytes (affine.solve_answer p cs)

-- "malformed FF08"; "8 before the rest for a line of text"
unfoldable pub answer_bytes : List ℕ → List ℕ
answer_bytes l = answer_by (refusal (line_tests l)) (λ n. 255 ∷ n ∷ []) (called_bytes (eqb (kind_of l) 1) (polynomial_of l) (coefficients_of l))

unfoldable pub answer_text : List ℕ → List ℕ
answer_text l = text (answer_bytes l)

-- what the code asks of an answer: no more roots or directions than there are places
abbrev pub FewRoots : Outcome ℕ → Type 0
FewRoots (turned_down n) = Unit {0}
FewRoots (gives k) = k ≤ most_roots

abbrev pub FewDirections : Outcome affine.Space → Type 0
FewDirections (turned_down n) = Unit {0}
FewDirections (gives s) = s.dimension ≤ places

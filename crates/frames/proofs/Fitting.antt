-- Every answer fits its places: roots (`roots_fit_lem`), directions (`directions_fit`), and the text of an answer its room (`answer_short`).
-- Assumes nothing.
use mathlib.Core.Path.{◌≡◌, refl, sym}
use mathlib.Core.Bool.{Bool, true, false}
use mathlib.Core.List.{List, [], ◌∷◌}
use Prim.Native.Nat.{ℕ, zero, suc, ◌+◌, ◌*◌, ◌^◌, ◌≤◌}
use native.Mathlib.Omega.{arith}
use lib.Dec.{eqb}
use lib.ListN.{length, length-append}
use lib.Seq.{length-take-le}
use Rattle.algebra.specs.Search.{some_below}
use Rattle.binary.specs.Factor.{degree_of}
use Rattle.linear.specs.Limits.{places}
use Rattle.linear.proofs.Listed.{directions_length}
use Rattle.galois.specs.Roots.{roots_of}
use Rattle.field.specs.Refusal.{refusal, Outcome, turned_down, gives, answer_by}
use Rattle.affine.specs.Equation.{is_root, is_direction, base_of, directions_of}
use Rattle.affine.specs.Calls as affine
use Rattle.affine.proofs.Tests.{equation_ready}
use Rattle.roots.specs.Calls as roots
use Rattle.roots.proofs.Theorems.{count_fits}
use Rattle.frames.specs.Limits.{answer_room}
use Rattle.frames.specs.Frame.{kind_of, polynomial_of, coefficients_of, line_tests}
use Rattle.frames.specs.Text.{text, Counts}
use Rattle.frames.specs.Answer.{root_bytes, direction_bytes, roots_said, roots_bytes, affine_said, affine_bytes, called_bytes, answer_bytes, answer_text, FewRoots, FewDirections}
use Rattle.frames.specs.Stream.{line_feed, answer_line}
use Rattle.frames.proofs.Writing.{text-length, up_to_length}

pub roots_fit_lem : (p : ℕ) (cs : List ℕ) → FewRoots (roots.solve_answer p cs).says
roots_fit_lem p cs = go (refusal (roots.equation_tests p cs)) refl
  where
    v : roots.Answer
    v = roots.solved p cs (roots_of (degree_of p) p cs)

    go : (n : ℕ) → refusal (roots.equation_tests p cs) ≡ n → FewRoots (answer_by n roots.refused_answer v).says
    go zero e = count_fits p cs e
    go (suc n) e = tt

pub directions_few : (p : ℕ) (cs : List ℕ) → refusal (affine.equation_tests p cs) ≡ 0 → length (directions_of (degree_of p) p cs) ≤ places
unfolding directions_of
directions_few p cs e = omega (arith, directions_length (is_direction p cs) (degree_of p), (equation_ready p cs e).largest)

pub directions_fit : (p : ℕ) (cs : List ℕ) → FewDirections (affine.solve_answer p cs).says
directions_fit p cs = go (refusal (affine.equation_tests p cs)) refl
  where
    v : Bool → affine.Answer
    v b = affine.solution b (base_of (degree_of p) p cs) (directions_of (degree_of p) p cs)

    pick : (b : Bool) → length (directions_of (degree_of p) p cs) ≤ places → FewDirections (v b).says
    pick true h = h
    pick false h = omega arith

    found : Bool
    found = some_below (is_root p cs) (2 ^ degree_of p)

    go : (n : ℕ) → refusal (affine.equation_tests p cs) ≡ n → FewDirections (answer_by n affine.refused_answer (v found)).says
    go zero e = pick found (directions_few p cs e)
    go (suc n) e = tt

-- the longest has 38 bytes
roots_short : (a : roots.Answer) → FewRoots a.says → length (roots_bytes a) ≤ 38
roots_short a h = go a.says h
  where
    go : (o : Outcome ℕ) → FewRoots o → length (roots_said o a.roots a.multiplicities) ≤ 38
    go (turned_down n) h = omega arith
    go (gives k) h = omega (arith, up_to_length (root_bytes a.roots a.multiplicities) 3 k (λ i. refl))

affine_short : (a : affine.Answer) → FewDirections a.says → length (affine_bytes a) ≤ 38
affine_short a h = go a.says h
  where
    go : (o : Outcome affine.Space) → FewDirections o → length (affine_said o a.base a.directions) ≤ 38
    go (turned_down n) h = omega arith
    go (gives s) h = omega (arith, up_to_length (direction_bytes a.directions) 2 s.dimension (λ i. refl))

called_short : (b : Bool) (p : ℕ) (cs : List ℕ) → length (called_bytes b p cs) ≤ 38
called_short true p cs = roots_short (roots.solve_answer p cs) (roots_fit_lem p cs)
called_short false p cs = affine_short (affine.solve_answer p cs) (directions_fit p cs)

pub answer_short : (l : List ℕ) → length (answer_bytes l) ≤ 38
unfolding answer_bytes
answer_short l = go (refusal (line_tests l))
  where
    said : List ℕ
    said = called_bytes (eqb (kind_of l) 1) (polynomial_of l) (coefficients_of l)

    go : (n : ℕ) → length (answer_by n (λ n. 255 ∷ n ∷ []) said) ≤ 38
    go zero = called_short (eqb (kind_of l) 1) (polynomial_of l) (coefficients_of l)
    go (suc n) = omega arith

-- an answer with its line feed: two characters a byte, and one
pub line_length : (l : List ℕ) (r : ℕ) → r ≡ length (answer_bytes l) → 2 * r + 1 ≡ length (answer_line l)
unfolding answer_text answer_line
line_length l r e = omega (arith, e, text-length (answer_bytes l), length-append (text (answer_bytes l)) (line_feed ∷ []))

pub line_short : (l : List ℕ) → length (answer_line l) ≤ answer_room
line_short l = omega (arith, line_length l (length (answer_bytes l)) refl, answer_short l)

-- a count of characters that are there
pub counts_within : (n : ℕ) (out : List ℕ) → n ≤ length out → Counts n out
counts_within n out h = (h, sym (length-take-le n out h))

-- No value of an answer is cut to its byte: all bytes of an answer are below 256 (`answer_all`, and `bytes_fit` for each of them). On the
-- way the answers of each kind (`roots_bytes_lem`, `affine_bytes_lem`). Assumes nothing.
use mathlib.Core.Path.{◌≡◌, refl}
use mathlib.Core.Bool.{Bool, true, false}
use mathlib.Core.List.{List, [], ◌∷◌, map}
use Prim.Native.Nat.{ℕ, zero, suc, ◌^◌, ◌<◌}
use native.Mathlib.Omega.{arith}
use lib.Dec.{eqb}
use lib.ListN.{length, get_or}
use Rattle.algebra.specs.Lists.{Member, padded}
use Rattle.algebra.specs.Search.{some_below}
use Rattle.algebra.proofs.Places.{padded_at}
use Rattle.binary.specs.Factor.{degree_of}
use Rattle.linear.specs.Limits.{places}
use Rattle.linear.specs.Solution.{placed}
use Rattle.galois.specs.Roots.{roots_of}
use Rattle.galois.specs.Multiplicity.{multiplicity}
use Rattle.field.specs.Accepted.{Accepted}
use Rattle.field.specs.Refusal.{refusal, answer_by}
use Rattle.field.proofs.Tests.{refusal-below}
use Rattle.affine.specs.Equation.{is_root, base_of, directions_of}
use Rattle.affine.specs.Calls as affine
use Rattle.affine.proofs.Tests.{equation_ready, ready_accepted}
use Rattle.affine.proofs.Theorems.{base_element, direction_element}
use Rattle.roots.specs.Limits.{most_roots}
use Rattle.roots.specs.Calls as roots
use Rattle.roots.proofs.Tests.{equation_passed}
use Rattle.roots.proofs.Theorems.{count_fits, root_element, multiplicity-fits}
use Rattle.frames.specs.Frame.{kind_of, polynomial_of, coefficients_of, line_tests}
use Rattle.frames.specs.Text.{element_bytes, up_to}
use Rattle.frames.specs.Answer.{root_bytes, direction_bytes, roots_bytes, affine_bytes, called_bytes, answer_bytes}
use Rattle.frames.proofs.Fitting.{directions_few}
use Rattle.frames.proofs.Bytes.{AllBytes, all_append, all_up_to, all_member, element_small, field_small}

-- ---- roots

module _ (p : ℕ) (cs : List ℕ) (z : refusal (roots.equation_tests p cs) ≡ 0) where
  abbrev rs : List ℕ
  rs = roots_of (degree_of p) p cs

  abbrev ks : List ℕ
  ks = map (λ r. multiplicity p r cs) rs

  pub root_bytes_lem : (i : ℕ) → i < length rs → AllBytes (root_bytes (padded most_roots rs) (padded most_roots ks) i)
  root_bytes_lem i l =
      let r = get_or (padded most_roots rs) i 0 in
      let k = get_or (padded most_roots ks) i 0 in
      all_append (element_bytes r) (k ∷ [])
      (element_small r (omega (arith, padded_at most_roots rs i, field_small (degree_of p) (get_or rs i 0) (equation_passed p cs z).accepted.largest (root_element p cs z i l))))
      (omega (arith, padded_at most_roots ks i, multiplicity-fits p cs z i), tt)

  pub solved_bytes : AllBytes (roots_bytes (roots.solved p cs rs))
  solved_bytes =
      let each = all_up_to (root_bytes (padded most_roots rs) (padded most_roots ks)) (length rs) root_bytes_lem in
      (omega arith, (omega arith, (omega (arith, count_fits p cs z), each)))

pub roots_bytes_lem : (p : ℕ) (cs : List ℕ) → AllBytes (roots_bytes (roots.solve_answer p cs))
roots_bytes_lem p cs = go (refusal (roots.equation_tests p cs)) refl
  where
    v : roots.Answer
    v = roots.solved p cs (roots_of (degree_of p) p cs)

    go : (n : ℕ) → refusal (roots.equation_tests p cs) ≡ n → AllBytes (roots_bytes (answer_by n roots.refused_answer v))
    go zero e = solved_bytes p cs e
    go (suc n) e = (omega arith, (omega (arith, e, refusal-below 256 (roots.equation_tests p cs) tt), tt))

-- ---- base and directions

placed_at : (ds : List ℕ) (i : ℕ) → get_or (placed ds) i 0 ≡ get_or ds i 0
unfolding placed
placed_at ds i = padded_at places ds i

module _ (p : ℕ) (cs : List ℕ) (z : refusal (affine.equation_tests p cs) ≡ 0) where
  abbrev m : ℕ
  m = degree_of p

  abbrev ds : List ℕ
  ds = directions_of m p cs

  abbrev base : ℕ
  base = base_of m p cs

  A : Accepted p
  A = ready_accepted p cs (equation_ready p cs z)

  pub direction_bytes_lem : (i : ℕ) → i < length ds → AllBytes (direction_bytes (placed ds) i)
  direction_bytes_lem i l = element_small (get_or (placed ds) i 0) (omega (arith, placed_at ds i, field_small m (get_or ds i 0) A.largest (direction_element p A cs i l)))

  pub solution_bytes : (b : Bool) → some_below (is_root p cs) (2 ^ m) ≡ b → AllBytes (affine_bytes (affine.solution b base ds))
  solution_bytes true e =
      let each = all_up_to (direction_bytes (placed ds)) (length ds) direction_bytes_lem in
      let rest = all_append (element_bytes base) (up_to (direction_bytes (placed ds)) (length ds)) (element_small base (field_small m base A.largest (base_element p A cs e))) each in
      (omega arith, (omega arith, (omega arith, (omega (arith, directions_few p cs z), rest))))
  solution_bytes false e = (omega arith, (omega arith, (omega arith, (omega arith, element_small 0 (omega arith)))))

pub affine_bytes_lem : (p : ℕ) (cs : List ℕ) → AllBytes (affine_bytes (affine.solve_answer p cs))
affine_bytes_lem p cs = go (refusal (affine.equation_tests p cs)) refl
  where
    found : Bool
    found = some_below (is_root p cs) (2 ^ degree_of p)

    v : affine.Answer
    v = affine.solution found (base_of (degree_of p) p cs) (directions_of (degree_of p) p cs)

    go : (n : ℕ) → refusal (affine.equation_tests p cs) ≡ n → AllBytes (affine_bytes (answer_by n affine.refused_answer v))
    go zero e = solution_bytes p cs e found refl
    go (suc n) e = (omega arith, (omega (arith, e, refusal-below 256 (affine.equation_tests p cs) tt), tt))

-- ---- the whole answer

called_all : (b : Bool) (p : ℕ) (cs : List ℕ) → AllBytes (called_bytes b p cs)
called_all true p cs = roots_bytes_lem p cs
called_all false p cs = affine_bytes_lem p cs

pub answer_all : (l : List ℕ) → AllBytes (answer_bytes l)
unfolding answer_bytes
answer_all l = go (refusal (line_tests l)) refl
  where
    said : List ℕ
    said = called_bytes (eqb (kind_of l) 1) (polynomial_of l) (coefficients_of l)

    go : (n : ℕ) → refusal (line_tests l) ≡ n → AllBytes (answer_by n (λ n. 255 ∷ n ∷ []) said)
    go zero e = called_all (eqb (kind_of l) 1) (polynomial_of l) (coefficients_of l)
    go (suc n) e = (omega arith, (omega (arith, e, refusal-below 256 (line_tests l) tt), tt))

pub bytes_fit : (l : List ℕ) (v : ℕ) → Member v (answer_bytes l) → v < 256
bytes_fit l v h = all_member (answer_bytes l) v (answer_all l) h

-- The normal form of an expression has the expression's meaning in every commutative ring in which x + x = 0.
-- `identity`: expressions that agree have the same value. Assumes nothing.
use mathlib.Core.Path.{◌≡◌, refl, sym, ◌∙◌, ap, ap₂, subst⁻¹}
use mathlib.Core.Bool.{Bool, true, false}
use Prim.Native.Nat.{ℕ, zero, suc, ◌+◌, ◌/◌, ◌%◌, ◌<◌, compare, Ordering}
use native.Mathlib.Omega.{arith}
use lib.Dec.{T, compare_is_eq, eqb→eq}
use Rattle.algebra.specs.Expression.{Expr, var, O, I, ◌⊕◌, ◌⊗◌, sq, pow, Mono, end, ◌▹◌, Poly, nil, ◌⊞◌, Rows, ◌⊟◌, rows, total, pairs, gather, shorter, force_m, force, mul_f, cmp, mul_m, sq_m, unit, merge_in, merge, scale, mul_p, sq_p, one_p, lin_p, oddly, pow_p, normal, same_p, agree}
use Rattle.algebra.specs.Ring.{Ring2}
use Rattle.algebra.proofs.RingLaws.{pw, zer_add, one-mul, add_left, mul_inter, cancel, mul_zer, zer_mul, add-mul, sq_add, pw_add}

force_m_is : (m : Mono) (k : Mono → Poly) → force_m m k ≡ k m
force_m_is end k = refl
force_m_is (j ▹ m) k = force_m_is m (λ r. k (j ▹ r))

force_is : (p : Poly) (k : Poly → Poly) → force p k ≡ k p
force_is nil k = refl
force_is (m ⊞ p) k = force_m_is m (λ n. force p (λ r. k (n ⊞ r))) ∙ force_is p (λ r. k (m ⊞ r))

module _ (R : Ring2) where
  abbrev pub eval : (ℕ → R.carrier) → Expr → R.carrier
  eval ρ (var i) = ρ i
  eval ρ O = R.zer
  eval ρ I = R.one
  eval ρ (e ⊕ f) = R.add (eval ρ e) (eval ρ f)
  eval ρ (e ⊗ f) = R.mul (eval ρ e) (eval ρ f)
  eval ρ (sq e) = R.mul (eval ρ e) (eval ρ e)
  eval ρ (pow e n) = pw R (eval ρ e) n

  ev_m : (ℕ → R.carrier) → Mono → R.carrier
  ev_m ρ end = R.one
  ev_m ρ (k ▹ m) = R.mul (pw R (ρ 0) k) (ev_m (λ i. ρ (suc i)) m)

  ev_p : (ℕ → R.carrier) → Poly → R.carrier
  ev_p ρ nil = R.zer
  ev_p ρ (m ⊞ p) = R.add (ev_m ρ m) (ev_p ρ p)

  ev_r : (ℕ → R.carrier) → Rows → R.carrier
  ev_r ρ Rows.none = R.zer
  ev_r ρ (p ⊟ r) = R.add (ev_p ρ p) (ev_r ρ r)

  -- monomials
  cmp_step : (ρ : ℕ → R.carrier) (j : ℕ) (m : Mono) (k : ℕ) (n : Mono)
      → (T (compare_is_eq (cmp m n)) → ev_m (λ i. ρ (suc i)) m ≡ ev_m (λ i. ρ (suc i)) n)
      → (o : Ordering) → compare j k ≡ o
      → T (compare_is_eq (elim o [ Ordering.lt ↦ Ordering.lt | Ordering.eq ↦ cmp m n | Ordering.gt ↦ Ordering.gt ]))
      → R.mul (pw R (ρ 0) j) (ev_m (λ i. ρ (suc i)) m) ≡ R.mul (pw R (ρ 0) k) (ev_m (λ i. ρ (suc i)) n)
  cmp_step ρ j m k n ih Ordering.lt e t = absurd t
  cmp_step ρ j m k n ih Ordering.eq e t = ap₂ R.mul (ap (pw R (ρ 0)) (eqb→eq j k (subst⁻¹ (λ (o : Ordering). T (compare_is_eq o)) e tt))) (ih t)
  cmp_step ρ j m k n ih Ordering.gt e t = absurd t

  cmp_ok : (ρ : ℕ → R.carrier) (m n : Mono) → T (compare_is_eq (cmp m n)) → ev_m ρ m ≡ ev_m ρ n
  unfolding ev_m
  cmp_ok ρ end end h = refl
  cmp_ok ρ end (k ▹ n) h = absurd h
  cmp_ok ρ (j ▹ m) end h = absurd h
  cmp_ok ρ (j ▹ m) (k ▹ n) h = cmp_step ρ j m k n (λ t. cmp_ok (λ i. ρ (suc i)) m n t) (compare j k) refl h

  mul_m_ok : (ρ : ℕ → R.carrier) (m n : Mono) → ev_m ρ (mul_m m n) ≡ R.mul (ev_m ρ m) (ev_m ρ n)
  unfolding ev_m
  mul_m_ok ρ end n = sym (one-mul R (ev_m ρ n))
  mul_m_ok ρ (j ▹ m) end = sym (R.mul-one (ev_m ρ (j ▹ m)))
  mul_m_ok ρ (j ▹ m) (k ▹ n) =
      ap₂ R.mul (pw_add R (ρ 0) j k) (mul_m_ok (λ i. ρ (suc i)) m n)
      ∙ mul_inter R (pw R (ρ 0) j) (pw R (ρ 0) k) (ev_m (λ i. ρ (suc i)) m) (ev_m (λ i. ρ (suc i)) n)

  sq_m_ok : (ρ : ℕ → R.carrier) (m : Mono) → ev_m ρ (sq_m m) ≡ R.mul (ev_m ρ m) (ev_m ρ m)
  unfolding ev_m
  sq_m_ok ρ end = sym (R.mul-one R.one)
  sq_m_ok ρ (k ▹ m) =
      ap₂ R.mul (pw_add R (ρ 0) k k) (sq_m_ok (λ i. ρ (suc i)) m)
      ∙ mul_inter R (pw R (ρ 0) k) (pw R (ρ 0) k) (ev_m (λ i. ρ (suc i)) m) (ev_m (λ i. ρ (suc i)) m)

  unit_ok : (ρ : ℕ → R.carrier) (i : ℕ) → ev_m ρ (unit i) ≡ ρ i
  unfolding ev_m
  unit_ok ρ zero = R.mul-one (R.mul (ρ 0) R.one) ∙ R.mul-one (ρ 0)
  unit_ok ρ (suc i) = one-mul R (ev_m (λ k. ρ (suc k)) (unit i)) ∙ unit_ok (λ k. ρ (suc k)) i

  -- polynomials
  module _ (ρ : ℕ → R.carrier) where
    merge_step : (m : Mono) (p : Poly) (rec : Poly → Poly) → ((q : Poly) → ev_p ρ (rec q) ≡ R.add (ev_p ρ p) (ev_p ρ q))
        → (n : Mono) (q : Poly) → ev_p ρ (merge_in m p rec q) ≡ R.add (R.add (ev_m ρ m) (ev_p ρ p)) (ev_p ρ q)
        → (o : Ordering) → cmp m n ≡ o
        → ev_p ρ (elim o [ Ordering.lt ↦ m ⊞ rec (n ⊞ q) | Ordering.eq ↦ rec q | Ordering.gt ↦ n ⊞ merge_in m p rec q ])
        ≡ R.add (R.add (ev_m ρ m) (ev_p ρ p)) (R.add (ev_m ρ n) (ev_p ρ q))
    unfolding ev_p
    merge_step m p rec h n q ih Ordering.lt e =
        ap (R.add (ev_m ρ m)) (h (n ⊞ q)) ∙ sym (R.add_assoc (ev_m ρ m) (ev_p ρ p) (R.add (ev_m ρ n) (ev_p ρ q)))
    merge_step m p rec h n q ih Ordering.eq e =
        h q
        ∙ sym (cancel R (ev_m ρ m) (ev_p ρ p) (ev_p ρ q))
        ∙ ap (λ (x : R.carrier). R.add (R.add (ev_m ρ m) (ev_p ρ p)) (R.add x (ev_p ρ q)))
        (cmp_ok ρ m n (subst⁻¹ (λ (o : Ordering). T (compare_is_eq o)) e tt))
    merge_step m p rec h n q ih Ordering.gt e =
        ap (R.add (ev_m ρ n)) ih ∙ add_left R (ev_m ρ n) (R.add (ev_m ρ m) (ev_p ρ p)) (ev_p ρ q)

    merge_in_ok : (m : Mono) (p : Poly) (rec : Poly → Poly) → ((q : Poly) → ev_p ρ (rec q) ≡ R.add (ev_p ρ p) (ev_p ρ q))
        → (q : Poly) → ev_p ρ (merge_in m p rec q) ≡ R.add (R.add (ev_m ρ m) (ev_p ρ p)) (ev_p ρ q)
    unfolding ev_p
    merge_in_ok m p rec h nil = sym (R.add_zer (R.add (ev_m ρ m) (ev_p ρ p)))
    merge_in_ok m p rec h (n ⊞ q) = merge_step m p rec h n q (merge_in_ok m p rec h q) (cmp m n) refl

    merge_ok : (p q : Poly) → ev_p ρ (merge p q) ≡ R.add (ev_p ρ p) (ev_p ρ q)
    unfolding ev_p
    merge_ok nil q = sym (zer_add R (ev_p ρ q))
    merge_ok (m ⊞ p) q = merge_in_ok m p (λ r. merge p r) (λ r. merge_ok p r) q

    scale_ok : (m : Mono) (q : Poly) → ev_p ρ (scale m q) ≡ R.mul (ev_m ρ m) (ev_p ρ q)
    unfolding ev_p
    scale_ok m nil = sym (mul_zer R (ev_m ρ m))
    scale_ok m (n ⊞ q) = ap₂ R.add (mul_m_ok ρ m n) (scale_ok m q) ∙ sym (R.mul-add (ev_m ρ m) (ev_m ρ n) (ev_p ρ q))

    sq_p_ok : (p : Poly) → ev_p ρ (sq_p p) ≡ R.mul (ev_p ρ p) (ev_p ρ p)
    unfolding ev_p
    sq_p_ok nil = sym (mul_zer R R.zer)
    sq_p_ok (m ⊞ p) = ap₂ R.add (sq_m_ok ρ m) (sq_p_ok p) ∙ sym (sq_add R (ev_m ρ m) (ev_p ρ p))

    one_p_ok : ev_p ρ one_p ≡ R.one
    unfolding ev_p ev_m
    one_p_ok = R.add_zer R.one

    zero_p_ok : ev_p ρ nil ≡ R.zer
    unfolding ev_p
    zero_p_ok = refl

    var_p_ok : (i : ℕ) → ev_p ρ (unit i ⊞ nil) ≡ ρ i
    unfolding ev_p
    var_p_ok i = R.add_zer (ev_m ρ (unit i)) ∙ unit_ok ρ i

    rows_ok : (p q : Poly) → ev_r ρ (rows p q) ≡ R.mul (ev_p ρ p) (ev_p ρ q)
    unfolding ev_p ev_r
    rows_ok nil q = sym (zer_mul R (ev_p ρ q))
    rows_ok (m ⊞ p) q = ap₂ R.add (scale_ok m q) (rows_ok p q) ∙ sym (add-mul R (ev_m ρ m) (ev_p ρ p) (ev_p ρ q))

    total_ok : (r : Rows) → ev_p ρ (total r) ≡ ev_r ρ r
    unfolding ev_p ev_r
    total_ok Rows.none = refl
    total_ok (p ⊟ r) = merge_ok p (total r) ∙ ap (R.add (ev_p ρ p)) (total_ok r)

    pairs_ok : (r : Rows) → ev_r ρ (pairs r) ≡ ev_r ρ r
    unfolding ev_r
    pairs_ok Rows.none = refl
    pairs_ok (p ⊟ Rows.none) = refl
    pairs_ok (p ⊟ (q ⊟ r)) = ap₂ R.add (merge_ok p q) (pairs_ok r) ∙ R.add_assoc (ev_p ρ p) (ev_p ρ q) (ev_r ρ r)

    gather_ok : (f : ℕ) (r : Rows) → ev_p ρ (gather f r) ≡ ev_r ρ r
    unfolding ev_r ev_p
    gather_ok zero r = total_ok r
    gather_ok (suc f) Rows.none = refl
    gather_ok (suc f) (p ⊟ Rows.none) = sym (R.add_zer (ev_p ρ p))
    gather_ok (suc f) (p ⊟ (q ⊟ r)) = gather_ok f (merge p q ⊟ pairs r) ∙ pairs_ok (p ⊟ (q ⊟ r))

    mul_p_by : (p q : Poly) (b : Bool)
        → ev_p ρ (elim b [ true ↦ gather 64 (rows p q) | false ↦ gather 64 (rows q p) ]) ≡ R.mul (ev_p ρ p) (ev_p ρ q)
    mul_p_by p q true = gather_ok 64 (rows p q) ∙ rows_ok p q
    mul_p_by p q false = gather_ok 64 (rows q p) ∙ rows_ok q p ∙ R.mul_comm (ev_p ρ q) (ev_p ρ p)

    mul_p_ok : (p q : Poly) → ev_p ρ (mul_p p q) ≡ R.mul (ev_p ρ p) (ev_p ρ q)
    mul_p_ok p q =
        ap (ev_p ρ) (force_is p (λ a. force q (λ b. mul_f a b)) ∙ force_is q (λ b. mul_f p b))
        ∙ mul_p_by p q (shorter p q)

    lin_p_ok : (p : Poly) (n : ℕ) → ev_p ρ (lin_p p n) ≡ pw R (ev_p ρ p) n
    lin_p_ok p zero = one_p_ok
    lin_p_ok p (suc n) = mul_p_ok p (lin_p p n) ∙ ap (R.mul (ev_p ρ p)) (lin_p_ok p n)

    -- r is what is left of n divided by two, h the quotient
    oddly_ok : (p s : Poly) (x : R.carrier) → ev_p ρ p ≡ x → (h : ℕ) → ev_p ρ s ≡ pw R x (h + h) → (r n : ℕ) → h + h + r ≡ n → r < 2
        → ev_p ρ (oddly r p s) ≡ pw R x n
    oddly_ok p s x ep h es zero n en l =
        let e : h + h ≡ n = omega arith in
        es ∙ ap (pw R x) e
    oddly_ok p s x ep h es (suc r) n en l =
        let e : suc (h + h) ≡ n = omega arith in
        mul_p_ok p s ∙ ap₂ R.mul ep es ∙ ap (pw R x) e

    pow_p_ok : (f : ℕ) (p : Poly) (n : ℕ) → ev_p ρ (pow_p f p n) ≡ pw R (ev_p ρ p) n
    pow_p_ok zero p n = lin_p_ok p n
    pow_p_ok (suc f) p zero = one_p_ok
    pow_p_ok (suc f) p (suc n) =
        oddly_ok p (sq_p (pow_p f p (suc n / 2))) (ev_p ρ p) refl (suc n / 2)
        (sq_p_ok (pow_p f p (suc n / 2)) ∙ ap₂ R.mul (pow_p_ok f p (suc n / 2)) (pow_p_ok f p (suc n / 2)) ∙ sym (pw_add R (ev_p ρ p) (suc n / 2) (suc n / 2)))
        (suc n % 2) (suc n) (omega arith) (omega arith)

    normal_ok : (e : Expr) → ev_p ρ (normal e) ≡ eval ρ e
    normal_ok (var i) = var_p_ok i
    normal_ok O = zero_p_ok
    normal_ok I = one_p_ok
    normal_ok (e ⊕ f) = merge_ok (normal e) (normal f) ∙ ap₂ R.add (normal_ok e) (normal_ok f)
    normal_ok (e ⊗ f) = mul_p_ok (normal e) (normal f) ∙ ap₂ R.mul (normal_ok e) (normal_ok f)
    normal_ok (sq e) = sq_p_ok (normal e) ∙ ap₂ R.mul (normal_ok e) (normal_ok e)
    normal_ok (pow e n) =
        ap (ev_p ρ) (force_is (normal e) (λ p. pow_p 64 p n))
        ∙ pow_p_ok 64 (normal e) n
        ∙ ap (λ (x : R.carrier). pw R x n) (normal_ok e)

  same_step : (ρ : ℕ → R.carrier) (m n : Mono) (p q : Poly) → (same_p p q ≡ true → ev_p ρ p ≡ ev_p ρ q)
      → (o : Ordering) → cmp m n ≡ o
      → (elim o [ Ordering.lt ↦ false | Ordering.eq ↦ same_p p q | Ordering.gt ↦ false ]) ≡ true
      → R.add (ev_m ρ m) (ev_p ρ p) ≡ R.add (ev_m ρ n) (ev_p ρ q)
  same_step ρ m n p q ih Ordering.lt e t = absurd (subst⁻¹ T t tt)
  same_step ρ m n p q ih Ordering.eq e t = ap₂ R.add (cmp_ok ρ m n (subst⁻¹ (λ (o : Ordering). T (compare_is_eq o)) e tt)) (ih t)
  same_step ρ m n p q ih Ordering.gt e t = absurd (subst⁻¹ T t tt)

  same_ok : (ρ : ℕ → R.carrier) (p q : Poly) → same_p p q ≡ true → ev_p ρ p ≡ ev_p ρ q
  unfolding ev_p
  same_ok ρ nil nil t = refl
  same_ok ρ nil (n ⊞ q) t = absurd (subst⁻¹ T t tt)
  same_ok ρ (m ⊞ p) nil t = absurd (subst⁻¹ T t tt)
  same_ok ρ (m ⊞ p) (n ⊞ q) t = same_step ρ m n p q (λ u. same_ok ρ p q u) (cmp m n) refl t

  pub identity : (e f : Expr) (ρ : ℕ → R.carrier) → agree e f ≡ true → eval ρ e ≡ eval ρ f
  identity e f ρ h = sym (normal_ok ρ e) ∙ same_ok ρ (normal e) (normal f) h ∙ normal_ok ρ f

-- What tokens do to the constructs on a machine's stack, at any frames, trees and tokens.
use Rattle.std.proofs.Common.{◌≡◌, ℕ, suc, ◌+◌, ◌<◌, ◌≤◌, Bool, true, false, List, [], ◌∷◌, ◌++◌, map, cond, nat_lt, refl, sym, ◌∙◌, ap, arith}
use Rattle.std.proofs.lemmas.Bool.Decides.{nat_tests}
use Rattle.std.proofs.lemmas.List.{map-append, append_assoc}
use Rattle.lw_read.specs.Machine.{Machine, run, heights}
use Rattle.lw_read.specs.Constructs.{Constructs, ended, BindsNoTighter, reduce}

module _ {F T : Type 0} (C : Constructs F T) where
  pub BindsNoTighter-more : (n m : ℕ) (fs : List F) → n ≤ m → BindsNoTighter C n fs → BindsNoTighter C m fs
  BindsNoTighter-more n m fs le fits = omega arith

  -- one construct is ended
  ended-next : (n : ℕ) (a : T) (f : F) (fs : List F) → n < C.rank f → ended C n a (f ∷ fs) ≡ ended C n (C.finish f a) fs
  ended-next n a f fs h = let is : nat_lt n (C.rank f) ≡ true = grind (arith, nat_tests) in ap (λ b. cond b (ended C n (C.finish f a) fs) (a, f ∷ fs)) is

  -- none is
  ended-none : (n : ℕ) (a : T) (fs : List F) → BindsNoTighter C n fs → ended C n a fs ≡ (a, fs)
  ended-none n a [] h = refl
  ended-none n a (f ∷ fs) h = let is : nat_lt n (C.rank f) ≡ false = grind (arith, nat_tests) in ap (λ b. cond b (ended C n (C.finish f a) fs) (a, f ∷ fs)) is

  -- what holds of an operand as each construct is ended holds of the one that is left
  pub ended-keeps : (Operand : ℕ → T → List F → Type 0)
      → ((m : ℕ) (a : T) (f : F) (fs : List F) → 0 < C.rank f → C.rank f ≤ m → Operand m a (f ∷ fs) → Operand (C.rank f) (C.finish f a) fs × BindsNoTighter C (C.rank f) fs)
      → (n : ℕ) (fs : List F) (m : ℕ) (a : T) → n < m → BindsNoTighter C m fs → Operand m a fs
      → (k : ℕ) × (n < k) × BindsNoTighter C n (ended C n a fs).1 × Operand k (ended C n a fs).0 (ended C n a fs).1
  ended-keeps Operand ends n [] m a lt fits op = (m, lt, omega arith, op)
  ended-keeps Operand ends n (f ∷ fs) m a lt fits op =
      let Goal : Bool → Type 0 = λ b. nat_lt n (C.rank f) ≡ b → let e = cond b (ended C n (C.finish f a) fs) (a, f ∷ fs) in (k : ℕ) × (n < k) × BindsNoTighter C n e.1 × Operand k e.0 e.1 in
      elim (nat_lt n (C.rank f)) as Goal [
        | true ↦ λ is.
            let above : n < C.rank f = grind (arith, nat_tests) in
            let made = ends m a f fs (omega arith) fits op in
            ended-keeps Operand ends n fs (C.rank f) (C.finish f a) above made.1 made.0
        | false ↦ λ is. let below : C.rank f ≤ n = grind (arith, nat_tests) in (m, lt, below, op)
      ] refl

module _ {F T S : Type 0} (C : Constructs F T) (go : T → List F → S) where
  pub reduce-ends : (n : ℕ) (a : T) (f : F) (fs : List F) → n < C.rank f → reduce C go n a (f ∷ fs) ≡ reduce C go n (C.finish f a) fs
  reduce-ends n a f fs h = ap (λ (e : T × List F). go e.0 e.1) (ended-next C n a f fs h)

  pub reduce-stays : (n : ℕ) (a : T) (fs : List F) → BindsNoTighter C n fs → reduce C go n a fs ≡ go a fs
  reduce-stays n a fs h = ap (λ (e : T × List F). go e.0 e.1) (ended-none C n a fs h)

-- an expression of a level ends before these tokens
abbrev pub Ends : {A : Type 0} → (A → ℕ) → ℕ → List A → Type 0
Ends token_rank n [] = ⊥
Ends token_rank n (t ∷ ts) = token_rank t < n

pub Ends-more : {A : Type 0} (token_rank : A → ℕ) (n m : ℕ) (ts : List A) → n ≤ m → Ends token_rank n ts → Ends token_rank m ts
Ends-more token_rank n m [] le ends = ends
Ends-more token_rank n m (t ∷ ts) le ends = omega arith

-- a machine whose tokens, behind an operand, end the constructs that bind tighter
module _ {A T U F S : Type 0} (M : Machine A U S) (C : Constructs F T) (have : T → List F → S) (token_rank : A → ℕ) (follow : A → T → List F → S)
    (goes : (t : A) (a : T) (fs : List F) → M.step t (have a fs) ≡ reduce C (follow t) (token_rank t) a fs)
  where
    -- what stands behind an expression that a construct awaits ends the construct
    swallow_one : (f : F) (a : T) (fs : List F) (t : A) → token_rank t < C.rank f → M.step t (have a (f ∷ fs)) ≡ M.step t (have (C.finish f a) fs)
    swallow_one f a fs t ends = goes t a (f ∷ fs) ∙ reduce-ends C (follow t) (token_rank t) a f fs ends ∙ sym (goes t (C.finish f a) fs)

    pub swallow : (f : F) (a : T) (fs : List F) (ts : List A) → Ends token_rank (C.rank f) ts → run M ts (have a (f ∷ fs)) ≡ run M ts (have (C.finish f a) fs)
    swallow f a fs [] ends = absurd ends
    swallow f a fs (t ∷ ts) ends = ap (run M ts) (swallow_one f a fs t ends)

    pub swallow_heights : (f : F) (a : T) (fs : List F) (ts : List A) → Ends token_rank (C.rank f) ts → heights M ts (have a (f ∷ fs)) ≡ heights M ts (have (C.finish f a) fs)
    swallow_heights f a fs [] ends = absurd ends
    swallow_heights f a fs (t ∷ ts) ends = ap (λ s. M.height s ∷ heights M ts s) (swallow_one f a fs t ends)

-- the counts of an expression with so many constructs round it
abbrev pub above : ℕ → List ℕ → List ℕ
above h xs = map (λ (k : ℕ). h + k) xs

pub above-zero : (xs : List ℕ) → above 0 xs ≡ xs
above-zero [] = refl
above-zero (x ∷ xs) = let rest = above-zero xs in let here : 0 + x ≡ x = omega arith in cc

pub above-above : (h m w : ℕ) (xs : List ℕ) → w ≡ h + m → above w xs ≡ above h (above m xs)
above-above h m w [] is = refl
above-above h m w (x ∷ xs) is = let rest = above-above h m w xs is in let here : w + x ≡ h + (m + x) = omega arith in cc

pub above-suc : (h w : ℕ) (xs : List ℕ) → w ≡ h + 1 → above w xs ≡ above h (map suc xs)
above-suc h w [] is = refl
above-suc h w (x ∷ xs) is = let rest = above-suc h w xs is in let here : w + x ≡ h + suc x = omega arith in cc

-- two parts, one behind the other
pub above-append : (h : ℕ) (xs ys rest : List ℕ) → above h xs ++ (above h ys ++ rest) ≡ above h (xs ++ ys) ++ rest
above-append h xs ys rest = sym (ap (λ zs. zs ++ rest) (map-append (λ (k : ℕ). h + k) xs ys) ∙ append_assoc (above h xs) (above h ys) rest)

-- a sign, and behind it its operand
pub above-prefix : (h w : ℕ) (xs rest : List ℕ) → w ≡ h + 1 → w ∷ (above w xs ++ rest) ≡ above h (1 ∷ map suc xs) ++ rest
above-prefix h w xs rest is = let shift = above-suc h w xs is in cc

-- an operand, a sign or a comma at which so many are unfinished, and what stands behind it
pub above-next : (h n w : ℕ) (xs inner ys start here behind rest : List ℕ) → above w xs ≡ above h inner
    → start ≡ above w xs ++ here → here ≡ (h + n) ∷ behind → behind ≡ above h ys ++ rest → start ≡ above h (inner ++ (n ∷ ys)) ++ rest
above-next h n w xs inner ys start here behind rest is first sign second =
    let parts = above-append h inner (n ∷ ys) rest in
    cc

-- an operand, a sign, and behind it its operand
pub above-infix : (h w : ℕ) (xs ys rest : List ℕ) → w ≡ h + 1 → above h xs ++ (w ∷ (above w ys ++ rest)) ≡ above h (xs ++ (1 ∷ map suc ys)) ++ rest
above-infix h w xs ys rest is = ap (λ zs. above h xs ++ zs) (above-prefix h w ys rest is) ∙ above-append h xs (1 ∷ map suc ys) rest

-- what stands within brackets, and the closing one
pub above-closed : (h w : ℕ) (xs rest : List ℕ) → w ≡ h + 1 → above w xs ++ (h ∷ rest) ≡ above h (map suc xs ++ (0 ∷ [])) ++ rest
above-closed h w xs rest is =
    let shift = above-suc h w xs is in
    let none : h + 0 ≡ h = omega arith in
    let parts = above-append h (map suc xs) (0 ∷ []) rest in
    cc

-- and with the opening one
pub above-brackets : (h w : ℕ) (xs rest : List ℕ) → w ≡ h + 1 → w ∷ (above w xs ++ (h ∷ rest)) ≡ above h (1 ∷ (map suc xs ++ (0 ∷ []))) ++ rest
above-brackets h w xs rest is = let closed = above-closed h w xs rest is in cc

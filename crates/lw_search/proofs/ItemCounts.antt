-- How many items of a closure pass a test: no more than the goal has modal subformulas.
use Rattle.std.proofs.Common.{◌≡◌, ℕ, ◌+◌, ◌-◌, ◌<◌, ◌≤◌, zero, suc, Bool, true, false, cond, not, ◌||◌, List, length, get_or, inl, inr, refl, sym, ap, subst, ◌∙◌, arith}
use Rattle.std.specs.List.{Contains, remove}
use Rattle.std.specs.Option.{is_some}
use Rattle.std.proofs.lemmas.Bool.{false≢true, and_from, and_parts, or_cases, cases_lt, cases_eq}
use Rattle.std.proofs.lemmas.List.{get_or_default}
use Rattle.std.proofs.lemmas.List.Edits.{length-remove, get_or-remove_below, get_or-remove_above}
use Rattle.lw_formula.specs.declared.parts.Parts.TheVariants.{Pi}
use Rattle.lw_formula.specs.declared.sign.Sign.{Sign}
use Rattle.lw_formula.specs.Signs.{opposite}
use Rattle.lw_formula.specs.Formula.{Formula, is_modal, subformulas, modal_subformulas, modal_count, IsSubformula}
use Rattle.lw_formula.specs.Signed.{Signed}
use Rattle.lw_formula.proofs.ListMembers.{Contains-filter}
use Rattle.lw_formula.proofs.SubformulaLists.{subformulas-IsSubformula}
use Rattle.lw_pool.specs.Region.{tree_at}
use Rattle.lw_proof.specs.Derivation.{is_nu, is_pi}
use Rattle.lw_closure.specs.Table.{Table, item_count, entry_at, signed_of}
use Rattle.lw_closure.specs.Keeps.{Keeps, has_guards}
use Rattle.lw_closure.proofs.ItemFormulas.{same_item, own_item, guarded_item, item_nu, item_pi}
use Rattle.lw_closure.proofs.OwnPis.{nu_sign, nu_modal, pi_modal}
use Rattle.lw_search.specs.Step.{is_asker, count_below, askers}

-- what is in a list but not at a place is in what the list is without that place
left_without : {X : Type 0} (xs : List X) (k : ℕ) → k < length xs → (x : X) → Contains xs x → ¬ (get_or xs k x ≡ x) → Contains (remove xs k) x
left_without xs k l x (j, m, e) other = elim (cases_lt j k) [
  | inl before ↦ (j, omega (arith, length-remove xs k l), get_or-remove_below xs k x j before l ∙ e)
  | inr from ↦ elim (cases_eq j k) [
    | inl same ↦ absurd (other (subst (λ i. get_or xs i x ≡ x) same e))
    | inr apart ↦
        let after : k < j = omega (arith, apart) in
        let next : j - 1 + 1 ≡ j = omega arith in
        (j - 1, omega (arith, length-remove xs k l), get_or-remove_above xs k x (j - 1) (omega arith) l ∙ ap (λ i. get_or xs i x) next ∙ e)
  ]
]

-- the numbers below n that pass a test, each with something of a list that no other of them has, are no more than the list is long
pub count_within : {X : Type 0} (Has : ℕ → X → Type 0) (test : ℕ → Bool) (n : ℕ) (xs : List X) →
    ((i : ℕ) → i < n → test i ≡ true → (x : X) × Contains xs x × Has i x) →
    ((i j : ℕ) (x : X) → i < n → j < n → test i ≡ true → test j ≡ true → Has i x → Has j x → i ≡ j) →
    count_below test n ≤ length xs
count_within Has test zero xs there apart = omega arith
count_within {X} Has test (suc n) xs there apart =
    with_last (test n) refl (λ ys among. count_within Has test n ys among (λ i j x l k. apart i j x (omega arith) (omega arith)))
  where
    with_last : (b : Bool) → test n ≡ b → ((ys : List X) → ((i : ℕ) → i < n → test i ≡ true → (x : X) × Contains ys x × Has i x) → count_below test n ≤ length ys) → cond b 1 0 + count_below test n ≤ length xs
    with_last false e fewer = let few : count_below test n ≤ length xs = fewer xs (λ i l t. there i (omega arith) t) in omega arith
    with_last true e fewer =
        let last = there n (omega arith) e in
        let few : count_below test n ≤ length (remove xs last.1.0) = fewer (remove xs last.1.0) (λ i l t. elsewhere last e i l t (there i (omega arith) t)) in
        omega (arith, length-remove xs last.1.0 last.1.1)
      where
        -- what an earlier number has stands elsewhere
        differs : (last : (x : X) × Contains xs x × Has n x) → test n ≡ true → (i : ℕ) → i < n → test i ≡ true → (own : (x : X) × Contains xs x × Has i x) → ¬ (get_or xs last.1.0 own.0 ≡ own.0)
        differs last e i l t own q =
            let one : last.0 ≡ own.0 = sym last.1.2 ∙ get_or_default xs last.1.0 last.0 own.0 last.1.1 ∙ q in
            let same : i ≡ n = apart i n own.0 (omega arith) (omega arith) t e own.2 (subst (Has n) one last.2) in
            omega arith

        elsewhere : (last : (x : X) × Contains xs x × Has n x) → test n ≡ true → (i : ℕ) → i < n → test i ≡ true → (x : X) × Contains xs x × Has i x → (x : X) × Contains (remove xs last.1.0) x × Has i x
        elsewhere last e i l t own = (own.0, left_without xs last.1.0 last.1.1 own.0 own.1 (differs last e i l t own), own.2)

-- in the logics without guards a label may ask for a step on each π
pub pi_asks : (t : Table) (i c : ℕ) → has_guards t.logic ≡ false → (entry_at t i).parts ≡ Pi c → is_asker t i ≡ true
pi_asks t i c none e =
    and_from (is_pi (entry_at t i).parts) (not (has_guards t.logic) || is_some (entry_at t i).guard) (ap is_pi e) (ap (λ b. not b || is_some (entry_at t i).guard) none)

module _ (ts : List Formula) (t : Table) (keeps : Keeps ts t) where
  abbrev s : ℕ → Signed
  s = signed_of ts t

  abbrev n : ℕ
  n = item_count t

  abbrev goal : Formula
  goal = tree_at ts t.goal

  -- the items that pass a test are no more than the goal's modal subformulas, where each is of one of these, under the sign that goes with it
  few_signed : (test : ℕ → Bool) (sign : Formula → Sign) →
      ((i : ℕ) → i < n → test i ≡ true → ((is_modal (s i).1 ≡ true) × ((s i).0 ≡ sign (s i).1)) × IsSubformula (s i).1 goal) →
      count_below test n ≤ modal_count goal
  few_signed test sign each = count_within (λ i c. (s i).1 ≡ c) test n (modal_subformulas goal) there apart
    where
      there : (i : ℕ) → i < n → test i ≡ true → (c : Formula) × Contains (modal_subformulas goal) c × ((s i).1 ≡ c)
      there i l e =
          let h = each i l e in
          ((s i).1, Contains-filter is_modal (subformulas goal) (s i).1 ((subformulas-IsSubformula goal (s i).1).1 h.1) h.0.0, refl)

      apart : (i j : ℕ) (c : Formula) → i < n → j < n → test i ≡ true → test j ≡ true → (s i).1 ≡ c → (s j).1 ≡ c → i ≡ j
      apart i j c l k e d p q =
          let same : (s i).1 ≡ (s j).1 = p ∙ sym q in
          let signs : (s i).0 ≡ (s j).0 = (each i l e).0.1 ∙ ap sign same ∙ sym (each j k d).0.1 in
          same_item ts t keeps i j l k (λ x. (signs x, same x))

  -- ν items of the goal's subformulas are no more than the goal's modal subformulas
  pub few_nus : (test : ℕ → Bool) → ((i : ℕ) → i < n → test i ≡ true → (is_nu (entry_at t i).parts ≡ true) × IsSubformula (s i).1 goal) → count_below test n ≤ modal_count goal
  few_nus test each = few_signed test nu_sign (λ i l e. (nu_modal (s i) (item_nu ts t keeps i l ∙ (each i l e).0), (each i l e).1))

  -- neither are π items
  pub few_pis : (test : ℕ → Bool) → ((i : ℕ) → i < n → test i ≡ true → (is_pi (entry_at t i).parts ≡ true) × IsSubformula (s i).1 goal) → count_below test n ≤ modal_count goal
  few_pis test each = few_signed test (λ f. opposite (nu_sign f)) (λ i l e. (pi_modal (s i) (item_pi ts t keeps i l ∙ (each i l e).0), (each i l e).1))

  -- neither are the items on which a label may ask for a step
  pub few_askers : askers t ≤ modal_count goal
  few_askers = few_pis (is_asker t) (λ i l e.
      let both = and_parts (is_pi (entry_at t i).parts) (not (has_guards t.logic) || is_some (entry_at t i).guard) e in (
        both.0,
        elim (or_cases (not (has_guards t.logic)) (is_some (entry_at t i).guard) both.1) [
          | inl none ↦ own_item ts t keeps (not_true (has_guards t.logic) none) i l
          | inr some ↦ guarded_item ts t keeps i l some
        ],
      ))
    where
      not_true : (b : Bool) → not b ≡ true → b ≡ false
      not_true true e = absurd (false≢true e)
      not_true false e = refl

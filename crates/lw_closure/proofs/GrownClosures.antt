-- A pool that grows keeps the formulas of a closure.
use Rattle.std.proofs.Common.{◌≡◌, ℕ, ◌/◌, ◌<◌, ◌≤◌, List, length, sym, ap, subst, ◌∙◌, arith}
use Rattle.std.specs.List.{All, Contains}
use Rattle.lw_formula.specs.Formula.{Formula, IsOperand, IsSubformula}
use Rattle.lw_formula.specs.Components.{parts_of, is_absurd}
use Rattle.lw_pool.specs.declared.id.FormId.{FormId}
use Rattle.lw_pool.specs.Region.{tree_at, IsLive, Grows}
use Rattle.lw_closure.specs.Table.{Table, item_count, entry_at, sign_of, form_of, form_at, signed_of}
use Rattle.lw_closure.specs.Keeps.{Keeps, guard_in, IsOfClosure, StandsBelow}
use Rattle.lw_closure.specs.Laws.{GrowthKeeps}
use Rattle.lw_closure.proofs.MappedComponents.{OfParts-imp, parts_same, option_same}

pub live_member : (ts : List Formula) (forms : List FormId) (a : FormId) → All (IsLive ts) forms → Contains forms a → IsLive ts a
live_member ts forms a live c = subst (IsLive ts) c.2 (live c.0 a c.1)

module _ (old new : List Formula) (grows : Grows old new) (forms : List FormId) (live : All (IsLive old) forms) where
  pub same_form : (i : ℕ) → i < length forms → form_at new forms i ≡ form_at old forms i
  same_form i l = grows.same (form_of forms i) (live i (record { 0 = 0 }) l)

  pub still_live : All (IsLive new) forms
  still_live i d l = omega (arith, grows.longer, live i d l)

  pub stands_on : (n : ℕ) → n ≤ length forms → (c : Formula) → StandsBelow old forms n c → StandsBelow new forms n c
  stands_on n l c h = (h.0, h.1, same_form h.0 (omega (arith, h.1)) ∙ h.2)

  pub stood : (n : ℕ) → n ≤ length forms → (c : Formula) → StandsBelow new forms n c → StandsBelow old forms n c
  stood n l c h = (h.0, h.1, sym (same_form h.0 (omega (arith, h.1))) ∙ h.2)

module _ (old new : List Formula) (t : Table) (grows : Grows old new) (keeps : Keeps old t) where
  same_goal : tree_at new t.goal ≡ tree_at old t.goal
  same_goal = grows.same t.goal (live_member old t.forms t.goal keeps.live keeps.table.goal)

  same_signed_of : (i : ℕ) → i < item_count t → signed_of new t i ≡ signed_of old t i
  same_signed_of i l = λ j. (sign_of i, same_form old new grows t.forms keeps.live (i / 2) (omega arith) j)

  pub kept_on : Keeps new t
  kept_on = record {
    table = keeps.table;
    live = still_live old new grows t.forms keeps.live;
    distinct = λ i j k l e. keeps.distinct i j k l (sym (same_form old new grows t.forms keeps.live i k) ∙ e ∙ same_form old new grows t.forms keeps.live j l);
    operands = λ i c l o.
        stands_on old new grows t.forms keeps.live i (omega arith) c (keeps.operands i c l (subst (IsOperand c) (same_form old new grows t.forms keeps.live i l) o));
    exact = λ c. (
      λ h. subst (λ g. IsOfClosure t.logic g c) (sym same_goal) ((keeps.exact c).0 (stood old new grows t.forms keeps.live (length t.forms) (omega arith) c h)),
      λ h. stands_on old new grows t.forms keeps.live (length t.forms) (omega arith) c ((keeps.exact c).1 (subst (λ g. IsOfClosure t.logic g c) same_goal h)),
    );
    goal_first = λ i j l m h.
        let a = same_form old new grows t.forms keeps.live i (omega arith) in
        let b = same_form old new grows t.forms keeps.live j m in
        let p : IsSubformula (form_at old t.forms j) (tree_at old t.goal) = subst (λ g. IsSubformula (form_at old t.forms j) g) same_goal (subst (λ c. IsSubformula c (tree_at new t.goal)) b h) in
        subst (λ g. IsSubformula (form_at new t.forms i) g) (sym same_goal) (subst (λ c. IsSubformula c (tree_at old t.goal)) (sym a) (keeps.goal_first i j l m p));
    parts = λ i l.
        parts_same (signed_of new t) (signed_of old t) (entry_at t i).parts
        (OfParts-imp (λ j. j < item_count t) (λ j. signed_of new t j ≡ signed_of old t j) same_signed_of (entry_at t i).parts (keeps.table.parts i l))
        ∙ keeps.parts i l ∙ sym (ap parts_of (same_signed_of i l));
    guard = λ i l.
        option_same (signed_of new t) (signed_of old t) (entry_at t i).guard (λ j e. same_signed_of j (keeps.table.guard i l j e))
        ∙ keeps.guard i l ∙ sym (λ j. guard_in t.logic (same_goal j) (same_signed_of i l j));
    absurd = λ i l. keeps.absurd i l ∙ sym (ap is_absurd (same_signed_of i l));
  }

pub growth : GrowthKeeps
growth old new t grows keeps = kept_on old new t grows keeps

-- The codes of signed ids and of proof trees, by which `SignedIds` and `Proof` have them for their `Value`, and the measure by which
-- each subproof is smaller.
use Rattle.std.specs.Prelude.{◌≡◌, ℕ, ◌+◌, ◌≤◌, ◌==◌, if◌then◌else◌, List, [], ◌∷◌}
use Rattle.std.proofs.Common.{refl, sym, ap, ◌∙◌, arith}
use base.Stored.{Gv, gnil, gnum, gcons, num, Coded}
use denote.Param.Weighed.{most}
use Rattle.lw_formula.specs.declared.sign.Sign.{Sign}
use Rattle.lw_formula.specs.declared.sign.Sign.TheVariants.{T, F}
use Rattle.lw_pool.specs.declared.id.SignedId.{SignedId}
use Rattle.lw_proof.specs.declared.rule.Rule.{Rule}
use Rattle.lw_proof.specs.Tree.{Tree, Forest, node, none, more, forest, lines, lines_all}

-- the number that stands for the sign
abbrev pub sign_number : Sign → ℕ
sign_number F = 0
sign_number T = 1

-- the sign for which the number stands
abbrev pub numbered_sign : ℕ → Sign
numbered_sign k = if k == 0 then F else T

-- the code of a signed id: its sign and its number
abbrev pub id_code : SignedId → Gv
id_code s = gcons (gnum (sign_number s.sign)) (gnum s.form.0)

-- the signed id that has the code
abbrev pub id_back : Gv → SignedId
id_back (gcons a b) = record { sign = numbered_sign (num a); form = record { 0 = num b } }
id_back _ = record { sign = F; form = record { 0 = 0 } }

pub numbered_sign-sign_number : (s : Sign) → numbered_sign (sign_number s) ≡ s
numbered_sign-sign_number T = refl
numbered_sign-sign_number F = refl

pub id_back-id_code : (s : SignedId) → id_back (id_code s) ≡ s
id_back-id_code s = λ i. record { sign = numbered_sign-sign_number s.sign i; form = s.form }

-- signed ids are told apart by their codes
abbrev pub coded_id : Coded SignedId
coded_id = record {
  code = id_code;
  inj = λ s t p. sym (id_back-id_code s) ∙ ap id_back p ∙ id_back-id_code t;
}

-- the number that stands for the rule
abbrev pub rule_number : Rule → ℕ
rule_number Rule.Close = 0
rule_number Rule.Absurd = 1
rule_number Rule.One = 2
rule_number Rule.Two = 3
rule_number Rule.Refl = 4
rule_number Rule.Step = 5
rule_number Rule.Cut = 6
rule_number Rule.Serial = 7

-- the rule for which the number stands
abbrev pub numbered_rule : ℕ → Rule
numbered_rule k =
    if k == 0 then Rule.Close else
    if k == 1 then Rule.Absurd else
    if k == 2 then Rule.One else
    if k == 3 then Rule.Two else
    if k == 4 then Rule.Refl else
    if k == 5 then Rule.Step else
    if k == 6 then Rule.Cut else Rule.Serial

pub numbered_rule-rule_number : (r : Rule) → numbered_rule (rule_number r) ≡ r
numbered_rule-rule_number Rule.Close = refl
numbered_rule-rule_number Rule.Absurd = refl
numbered_rule-rule_number Rule.One = refl
numbered_rule-rule_number Rule.Two = refl
numbered_rule-rule_number Rule.Refl = refl
numbered_rule-rule_number Rule.Step = refl
numbered_rule-rule_number Rule.Cut = refl
numbered_rule-rule_number Rule.Serial = refl

-- the rule and the principal, then the subproofs
abbrev mutual
  pub tree_code : Tree SignedId → Gv
  tree_code (node r s ts) = gcons (gcons (gnum (rule_number r)) (id_code s)) (forest_code ts)

  pub forest_code : Forest SignedId → Gv
  forest_code none = gnil
  forest_code (more t ts) = gcons (tree_code t) (forest_code ts)

-- the proof that has the code
abbrev mutual
  pub tree_back : Gv → Tree SignedId
  tree_back (gcons (gcons r s) ts) = node (numbered_rule (num r)) (id_back s) (forest_back ts)
  tree_back g = node Rule.Close (id_back gnil) none

  pub forest_back : Gv → Forest SignedId
  forest_back (gcons t ts) = more (tree_back t) (forest_back ts)
  forest_back g = none

mutual
  pub tree_back-tree_code : (t : Tree SignedId) → tree_back (tree_code t) ≡ t
  tree_back-tree_code (node r s ts) = λ i. node (numbered_rule-rule_number r i) (id_back-id_code s i) (forest_back-forest_code ts i)

  pub forest_back-forest_code : (ts : Forest SignedId) → forest_back (forest_code ts) ≡ ts
  forest_back-forest_code none = refl
  forest_back-forest_code (more t ts) = λ i. more (tree_back-tree_code t i) (forest_back-forest_code ts i)

-- proofs are told apart by their codes
abbrev pub coded_tree : Coded (Tree SignedId)
coded_tree = record {
  code = tree_code;
  inj = λ s t p. sym (tree_back-tree_code s) ∙ ap tree_back p ∙ tree_back-tree_code t;
}

-- no subproof has as many steps as the proof
pub most_le-lines : (ts : List (Tree SignedId)) → most (λ t. lines t + 1) ts ≤ lines_all (forest ts) + 1
most_le-lines [] = omega arith
most_le-lines (t ∷ ts) = omega (arith, most_le-lines ts)

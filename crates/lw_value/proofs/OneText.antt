-- A value has one text, and so what is printed of values is one line.
use Rattle.std.proofs.Common.{◌≡◌, ℕ, List, [], ◌∷◌, ◌++◌, codes, refl, sym, ap, ◌∙◌, arith}
use Rattle.std.proofs.lemmas.List.{append_cancel_right}
use Rattle.lw_formula.specs.declared.logic.Logic.{Logic}
use Rattle.lw_formula.specs.FiniteModel.{FiniteModel}
use Rattle.lw_formula.specs.Formula.{Formula}
use Rattle.lw_cert.specs.declared.certificate.Body.TheVariants.{Refuted}
use Rattle.lw_cert.specs.declared.certificate.Certificate.{Certificate}
use Rattle.lw_cert.specs.Lines.{Row}
use Rattle.lw_cert.specs.Sheet.{Sheet, Content, Steps, Table, lines}
use Rattle.lw_cert.specs.Written.{IsWritten, IsOrdered, text_of_lines}
use Rattle.lw_cert.proofs.OneSheet.{one-text}
use Rattle.lw_value.specs.Values.{Evidence, proved, refuted, Val, Vals, formula, truth, number, text, items, logic, certificate, naught, empty, item}
use Rattle.lw_value.specs.ValueTexts.{Tells, IsCertificateText, IsTextOf, AreTextsOf, IsLineOf, joined}

abbrev sheet_of : Logic → Formula → Content → Sheet
sheet_of l a content = record { logic = l; formula = a; content = content }

-- a program's certificate over the one formula
abbrev refuted_by : Logic → FiniteModel → ℕ → Certificate
refuted_by l m w = record { logic = l; formula = record { 0 = 0 }; body = Refuted m w }

table-written : (l : Logic) (a : Formula) (m : FiniteModel) (w v : ℕ) (rows : List Row) → Tells (refuted m w) (Table v rows) → IsOrdered (Table v rows) → IsWritten (a ∷ []) (refuted_by l m w) (text_of_lines (lines (sheet_of l a (Table v rows))))
table-written l a m w v rows tells ordered = record {
  sheet = sheet_of l a (Table v rows);
  says = record { logic = refl; formula = (omega arith, refl); content = (sym tells.0, tells.1, tells.2, tells.3) };
  ordered = ordered;
  said = refl;
}

one-content : (l : Logic) (a : Formula) (e : Evidence Formula) (c d : Content) → Tells e c → Tells e d → IsOrdered c → IsOrdered d → text_of_lines (lines (sheet_of l a c)) ≡ text_of_lines (lines (sheet_of l a d))
one-content l a (proved P) (Steps t) (Steps u) one other first second = ap (λ s. text_of_lines (lines (sheet_of l a (Steps s)))) (one ∙ sym other)
one-content l a (proved P) (Steps t) (Table v rows) one other first second = absurd other
one-content l a (proved P) (Table v rows) d one other first second = absurd one
one-content l a (refuted m w) (Steps t) d one other first second = absurd one
one-content l a (refuted m w) (Table v rows) (Steps t) one other first second = absurd other
one-content l a (refuted m w) (Table v rows) (Table u others) one other first second =
    one-text (a ∷ []) (refuted_by l m w) (text_of_lines (lines (sheet_of l a (Table v rows)))) (text_of_lines (lines (sheet_of l a (Table u others))))
    (table-written l a m w v rows one first) (table-written l a m w u others other second)

one-certificate : (l : Logic) (a : Formula) (e : Evidence Formula) (one other : List ℕ) → IsCertificateText l a e one → IsCertificateText l a e other → one ≡ other
one-certificate l a e one other is is' =
    append_cancel_right one other (10 ∷ []) (is.said ∙ one-content l a e is.content is'.content is.tells is'.tells is.ordered is'.ordered ∙ sym is'.said)

mutual
  pub one_value_text : (v : Val Formula) (one other : List ℕ) → IsTextOf v one → IsTextOf v other → one ≡ other
  one_value_text (formula a) one other is is' = is ∙ sym is'
  one_value_text (truth b) one other is is' = is ∙ sym is'
  one_value_text (number n) one other is is' = is ∙ sym is'
  one_value_text (text bytes) one other is is' = is ∙ sym is'
  one_value_text (items vs) one other is is' = is.2 ∙ ap (λ ts. codes "[" ++ joined (codes ", ") ts ++ codes "]") (one-texts vs is.0 is'.0 is.1 is'.1) ∙ sym is'.2
  one_value_text (logic l) one other is is' = is ∙ sym is'
  one_value_text (certificate l a e) one other is is' = one-certificate l a e one other is is'
  one_value_text naught one other is is' = is ∙ sym is'

  one-texts : (vs : Vals Formula) (ts us : List (List ℕ)) → AreTextsOf vs ts → AreTextsOf vs us → ts ≡ us
  one-texts empty [] [] are are' = refl
  one-texts empty [] (u ∷ us) are are' = absurd are'
  one-texts empty (t ∷ ts) us are are' = absurd are
  one-texts (item v vs) [] us are are' = absurd are
  one-texts (item v vs) (t ∷ ts) [] are are' = absurd are'
  one-texts (item v vs) (t ∷ ts) (u ∷ us) are are' = λ i. one_value_text v t u are.0 are'.0 i ∷ one-texts vs ts us are.1 are'.1 i

-- what is printed of the values
pub one_line : (vs : Vals Formula) (one other : List ℕ) → IsLineOf vs one → IsLineOf vs other → one ≡ other
one_line vs one other is is' = is.2 ∙ ap (λ ts. joined (codes " ") ts ++ codes "\n") (one-texts vs is.0 is'.0 is.1 is'.1) ∙ sym is'.2

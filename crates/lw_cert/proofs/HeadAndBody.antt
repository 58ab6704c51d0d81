-- The text of a certificate, of its head and its body.
use Rattle.std.proofs.Common.{◌≡◌, List, [], ◌∷◌, ◌++◌, refl, sym, ◌∙◌, ℕ}
use Rattle.std.proofs.lemmas.List.{append-nil}
use Rattle.lw_formula.specs.Formula.{Formula}
use Rattle.lw_pool.specs.Region.{IsLive, tree_at}
use Rattle.lw_proof.specs.Pooled.{proof_at}
use Rattle.lw_cert.specs.declared.certificate.Body.{Body}
use Rattle.lw_cert.specs.declared.certificate.Body.TheVariants.{Proved, Refuted}
use Rattle.lw_cert.specs.declared.certificate.Certificate.{Certificate}
use Rattle.lw_cert.specs.Certificates.{IsContentOf}
use Rattle.lw_cert.specs.Lines.{heading, logic_is, formula_is, nothing}
use Rattle.lw_cert.specs.Sheet.{Content, Steps, Table, content_lines}
use Rattle.lw_cert.specs.Written.{IsOrdered, IsWritten, HasLiveBody, text_of_lines}
use Rattle.lw_cert.specs.Private.LineWriting.{Writes, WritesBody}

-- the body's content, and its text behind the head
record HasContent (ts : List Formula) (b : Body) (head text : List ℕ) : Type 0 where
  content : Content
  of : IsContentOf ts b content
  ordered : IsOrdered content
  said : text ++ [] ≡ head ++ text_of_lines (content_lines content)

content-of : (ts : List Formula) (b : Body) (head text : List ℕ) → HasLiveBody ts b → WritesBody ts b head text → HasContent ts b head text
content-of ts (Proved P) head text live writes = record { content = Steps (proof_at ts P); of = (live, refl); ordered = tt; said = writes (nothing ∷ []) }
content-of ts (Refuted m w) head text live writes = record {
  content = Table w writes.rows;
  of = (refl, live, writes.count, writes.says);
  ordered = writes.ordered;
  said = writes.text (nothing ∷ []);
}

-- behind the head and the body there is nothing
pub is-written : (ts : List Formula) (c : Certificate) (head text : List ℕ) → IsLive ts c.formula → HasLiveBody ts c.body → Writes [] head (λ rest. heading ∷ logic_is c.logic ∷ formula_is (tree_at ts c.formula) ∷ rest)
    → WritesBody ts c.body head text → IsWritten ts c text
is-written ts c head text formula body begins writes =
    let has = content-of ts c.body head text body writes in record {
      sheet = record { logic = c.logic; formula = tree_at ts c.formula; content = has.content };
      says = record { logic = refl; formula = (formula, refl); content = has.of };
      ordered = has.ordered;
      said = sym (append-nil text) ∙ has.said ∙ begins (content_lines has.content);
    }

-- What is written of a program's certificate is the text of the certificate as a value.
use Rattle.std.proofs.Common.{◌≡◌, ℕ, suc, ◌<◌, Option, None, Some, IsSome, option_to_list, List, [], ◌∷◌, ◌++◌, length, reverse, refl, sym, ap, ◌∙◌, append_assoc, arith, length-append}
use Rattle.std.proofs.lemmas.List.{reverse-append}
use Rattle.lw_formula.specs.declared.logic.Logic.{Logic}
use Rattle.lw_formula.specs.Formula.{Formula}
use Rattle.lw_formula.specs.Signed.{Signed}
use Rattle.lw_pool.specs.declared.id.SignedId.{SignedId}
use Rattle.lw_pool.specs.declared.id.FormId.{FormId}
use Rattle.lw_pool.specs.Region.{tree_at, signed_at, IsLive}
use Rattle.lw_proof.specs.Tree.{Tree, Forest, node, none, more, map_tree, map_forest, EachPrincipal, EachOfAll}
use Rattle.lw_cert.specs.declared.certificate.Body.{Body}
use Rattle.lw_cert.specs.declared.certificate.Body.TheVariants.{Proved, Refuted}
use Rattle.lw_cert.specs.declared.certificate.Certificate.{Certificate}
use Rattle.lw_cert.specs.Lines.{Line, Row, ending, nothing, say}
use Rattle.lw_cert.specs.Sheet.{Sheet, Content, Steps, Table, steps, all_steps, rows_from, content_lines, lines}
use Rattle.lw_cert.specs.Certificates.{IsContentOf}
use Rattle.lw_cert.specs.Written.{piece_text, text_of_lines, IsWritten, HasLiveBody, IsCertificateLive}
use Rattle.lw_value.specs.Values.{seen, shown_by, EachShown, AreLive}
use Rattle.lw_value.specs.Evidence.{HasWorld, HasWorlds}
use Rattle.lw_value.specs.Certified.{pair_of, evidence_of, certified}
use Rattle.lw_value.specs.ValueTexts.{Tells, IsTextOf}

-- the lines end with a line feed
record EndsInFeed (ls : List Line) : Type 0 where
  front : List ℕ
  is : text_of_lines ls ≡ front ++ 10 ∷ []

one-more : (l : Line) (ls : List Line) → EndsInFeed ls → EndsInFeed (l ∷ ls)
one-more l ls ends = record { front = piece_text (say l) ++ ends.front; is = ap (λ bytes. piece_text (say l) ++ bytes) ends.is ∙ sym (append_assoc (piece_text (say l)) ends.front (10 ∷ [])) }

mutual
  steps-feed : (d : ℕ) (t : Tree Signed) (rest : List Line) → EndsInFeed rest → EndsInFeed (steps d t rest)
  steps-feed d (node r s ts) rest ends = one-more _ _ (all-steps-feed (suc d) ts rest ends)

  all-steps-feed : (d : ℕ) (ts : Forest Signed) (rest : List Line) → EndsInFeed rest → EndsInFeed (all_steps d ts rest)
  all-steps-feed d none rest ends = ends
  all-steps-feed d (more t ts) rest ends = steps-feed d t (all_steps d ts rest) (all-steps-feed d ts rest ends)

rows-feed : (n i : ℕ) (rows : List Row) (rest : List Line) → EndsInFeed rest → EndsInFeed (rows_from n i rows rest)
rows-feed n i [] rest ends = ends
rows-feed n i (row ∷ rows) rest ends = one-more _ _ (rows-feed n (suc i) rows rest ends)

last-feed : EndsInFeed (ending ∷ nothing ∷ [])
last-feed = record { front = 101 ∷ 110 ∷ 100 ∷ []; is = refl }

content-feed : (c : Content) → EndsInFeed (content_lines c)
content-feed (Steps t) = one-more _ _ (steps-feed 1 t (ending ∷ nothing ∷ []) last-feed)
content-feed (Table w rows) = one-more _ _ (one-more _ _ (one-more _ _ (rows-feed (length rows) 0 rows (ending ∷ nothing ∷ []) last-feed)))

sheet-feed : (s : Sheet) → EndsInFeed (lines s)
sheet-feed s = one-more _ _ (one-more _ _ (one-more _ _ (content-feed s.content)))

-- the proof of a certificate, by its ids and by its formulas
mutual
  pub tree-told : (ts : List Formula) (t : Tree SignedId) → map_tree (λ s. (s.0, tree_at ts s.1)) (map_tree pair_of t) ≡ map_tree (signed_at ts) t
  tree-told ts (node r s us) = λ i. node r (s.sign, tree_at ts s.form) (forest-told ts us i)

  forest-told : (ts : List Formula) (us : Forest SignedId) → map_forest (λ s. (s.0, tree_at ts s.1)) (map_forest pair_of us) ≡ map_forest (signed_at ts) us
  forest-told ts none = refl
  forest-told ts (more t us) = λ i. more (tree-told ts t i) (forest-told ts us i)

content-told : (ts : List Formula) (b : Body) (c : Content) → IsContentOf ts b c → Tells (shown_by (tree_at ts) (evidence_of b)) c
content-told ts (Proved P) (Steps t) is = is.1 ∙ sym (tree-told ts P)
content-told ts (Proved P) (Table v rows) is = is
content-told ts (Refuted m w) (Steps t) is = is
content-told ts (Refuted m w) (Table v rows) is = (sym is.0, is.1, is.2, is.3)

abbrev first_of : List ℕ → ℕ
first_of [] = 0
first_of (x ∷ xs) = x

last-same : (xs ys : List ℕ) (x y : ℕ) → xs ++ x ∷ [] ≡ ys ++ y ∷ [] → x ≡ y
last-same xs ys x y same = ap first_of (sym (reverse-append xs (x ∷ []))) ∙ ap (λ l. first_of (reverse l)) same ∙ ap first_of (reverse-append ys (y ∷ []))

one-byte : (ts : List Formula) (c : Certificate) (text front : List ℕ) (last : ℕ) → IsWritten ts c text → text ≡ front ++ last ∷ [] → IsTextOf (seen ts (certified c)) front
one-byte ts c text front last is cut =
    let feed = sheet-feed is.sheet in
    let ten : last ≡ 10 = last-same front feed.front last 10 (sym cut ∙ is.said ∙ feed.is) in
    record {
      content = is.sheet.content;
      tells = content-told ts c.body is.sheet.content is.says.content;
      ordered = is.ordered;
      said = ap (λ b. front ++ b ∷ []) (sym ten) ∙ sym cut ∙ is.said ∙ (λ i. text_of_lines (lines (record { logic = sym is.says.logic i; formula = sym is.says.formula.1 i; content = is.sheet.content })));
    }

last-there : (ts : List Formula) (c : Certificate) (text : List ℕ) → IsWritten ts c text → 0 < length text
last-there ts c text is = let feed = sheet-feed is.sheet in omega (arith, ap length (is.said ∙ feed.is), length-append feed.front (10 ∷ []))

-- the text without its last byte
pub certificate-text : (ts : List Formula) (c : Certificate) (text front : List ℕ) (last : Option ℕ) → IsWritten ts c text → text ≡ front ++ option_to_list last → (0 < length text → IsSome last) → IsTextOf (seen ts (certified c)) front
certificate-text ts c text front None is cut some = let h = some (last-there ts c text is) in absurd cc
certificate-text ts c text front (Some last) is cut some = one-byte ts c text front last is cut

mutual
  pub principals-told : (P : FormId → Type 0) (t : Tree SignedId) → EachPrincipal (λ s. P s.1) (map_tree pair_of t) → EachPrincipal (λ s. P s.form) t
  principals-told P (node r s us) each = (each.0, all-principals-told P us each.1)

  all-principals-told : (P : FormId → Type 0) (us : Forest SignedId) → EachOfAll (λ s. P s.1) (map_forest pair_of us) → EachOfAll (λ s. P s.form) us
  all-principals-told P none each = tt
  all-principals-told P (more t us) each = (principals-told P t each.0, all-principals-told P us each.1)

body-live : (ts : List Formula) (l : Logic) (a : FormId) (b : Body) → EachShown (IsLive ts) (evidence_of b) → HasWorld l a (evidence_of b) → HasLiveBody ts b
body-live ts l a (Proved P) live world = principals-told (IsLive ts) P live
body-live ts l a (Refuted m w) live world = world

-- a live value that is a certificate is a live certificate
pub certificate-live : (ts : List Formula) (c : Certificate) → AreLive ts (certified c) → HasWorlds (certified c) → IsCertificateLive ts c
certificate-live ts c live world = record { formula = live.0; body = body-live ts c.logic c.formula c.body live.1 world }

-- What the lines so far say of the text: the certificate, or its first fault.
use Rattle.std.proofs.Common.{◌≡◌, ℕ, ◌+◌, false, List, [], ◌∷◌, ◌++◌, length, map, take, refl, sym, ◌∙◌, ap, subst, arith, add-one}
use Rattle.std.proofs.lemmas.Bool.{false≢true}
use Rattle.std.proofs.lemmas.List.{map-append, length_push, length-map, take_at}
use borrow.Author.Count.{below_more}
use Rattle.lw_formula.specs.Formula.{Formula}
use Rattle.lw_pool.specs.Region.{Grows}
use Rattle.lw_cert.specs.declared.fault.CertFault.{CertFault}
use Rattle.lw_cert.specs.declared.fault.CertFault.TheVariants as fault
use Rattle.lw_cert.specs.declared.stage.Stage.{Stage}
use Rattle.lw_cert.specs.declared.stage.Stage.TheVariants as stage
use Rattle.lw_cert.specs.declared.certificate.Certificate.{Certificate}
use Rattle.lw_cert.specs.Lines.{Line, nothing, Piece, Whole, Cut, Stop, say, pieces, AreAllowed}
use Rattle.lw_cert.specs.CertificateFaults.{IsFine, IsFault, is_in_model, IsFaultOf}
use Rattle.lw_cert.specs.Certificates.{IsTextOf}
use Rattle.lw_cert.specs.Private.LineMachine.{State, Ended, step, IsOnTrack, is_modelling, is_ended}
use Rattle.lw_cert.specs.Private.StageViews.{state_of, Told, Blocks, Leads, Refuses, Reached, last_piece}
use Rattle.lw_cert.proofs.LineByLine.{fine, faulty, place, map_more, AreAllowed-append}

pub on-stage : (s : Stage) → IsOnTrack (state_of s)
on-stage stage.Start = tt
on-stage stage.Headed = tt
on-stage (stage.Chosen L) = tt
on-stage (stage.Named h) = tt
on-stage (stage.Proving h ds ss) = tt
on-stage (stage.Sizing h) = tt
on-stage (stage.Counted h n) = tt
on-stage (stage.Listing h t) = tt
on-stage (stage.Ended c) = tt

pub reached-none : (ps : List Piece) (ts : List Formula) → Reached ps 0 ps ts stage.Start
reached-none ps ts = record {
  first = [];
  said = refl;
  count = refl;
  told = record { ran = refl; allowed = tt; tells = refl };
  before = λ i h. absurd (omega arith);
}

pub reached-more : (ps : List Piece) (at : ℕ) (line : List ℕ) (rest : List Piece) (old new : List Formula) (from to : Stage) → Reached ps at (Whole line ∷ rest) old from → Leads line old from new to → Reached ps (at + 1) rest new to
reached-more ps at line rest old new from to r leads =
    let l = leads.0 in
    let next : List Line = r.first ++ l ∷ [] in
    let said : ps ≡ map say next ++ rest = r.said ∙ ap (λ p. map say r.first ++ p ∷ rest) (sym leads.1) ∙ sym (map_more r.first l rest) in
    let count : length next ≡ at + 1 = length_push r.first l ∙ ap (λ k. k + 1) r.count in
    let told = leads.2 r.first r.told in
    record {
      first = next;
      said = said;
      count = count;
      told = told;
      before = below_more (IsFine ps) at r.before (fine ps at next rest said (count ∙ add-one at) told.allowed (subst IsOnTrack (sym told.ran) (on-stage to)));
    }

-- the fault of a piece that is refused, and whether it stands in a model
fault-at : (text : List ℕ) (at : ℕ) (p : Piece) (rest : List Piece) (ts : List Formula) (s : Stage) → Reached (pieces text) at (p ∷ rest) ts s → ((ls : List Line) → Told ts s ls → Blocks p (state_of s)) → IsFault (pieces text) at
fault-at text at p rest ts s r blocks =
    faulty (pieces text) at r.first p rest r.said r.count r.told.allowed (subst IsOnTrack (sym r.told.ran) (on-stage s)) r.before
    (subst (Blocks p) (sym r.told.ran) (blocks r.first r.told))

place-at : (text : List ℕ) (at : ℕ) (p : Piece) (rest : List Piece) (ts : List Formula) (s : Stage) → Reached (pieces text) at (p ∷ rest) ts s → is_in_model (take at (pieces text)) ≡ is_modelling (state_of s)
place-at text at p rest ts s r =
    ap (λ ps. is_in_model (take at ps)) r.said
    ∙ ap is_in_model (take_at (map say r.first) (p ∷ rest) at (length-map r.first say ∙ r.count))
    ∙ place r.first (subst IsOnTrack (sym r.told.ran) (on-stage s))
    ∙ ap is_modelling r.told.ran

pub refused : (text : List ℕ) (at : ℕ) (p : Piece) (rest : List Piece) (ts : List Formula) (s : Stage) → Reached (pieces text) at (p ∷ rest) ts s → (e : CertFault) → Refuses ts s p at e → IsFaultOf text e
refused text at p rest ts s r (fault.ModelText line) refuses = (at, refuses.0, fault-at text at p rest ts s r refuses.2, place-at text at p rest ts s r ∙ refuses.1)
refused text at p rest ts s r (fault.ProofText line) refuses = (at, refuses.0, fault-at text at p rest ts s r refuses.2, place-at text at p rest ts s r ∙ refuses.1)
refused text at p rest ts s r fault.Memory refuses = tt

-- no line of a certificate is cut
no-cut : (l : Line) (bytes : List ℕ) → say l ≡ Cut bytes → ⊥
no-cut nothing bytes e = cc
no-cut _ bytes e = cc

no-stop : (l : Line) (s : State) → is_ended s ≡ false → say l ≡ Stop → IsOnTrack (step l s) → ⊥
no-stop nothing Ended unfinished e on = false≢true (sym unfinished)
no-stop nothing _ unfinished e on = on
no-stop _ s unfinished e on = cc

pub blocks-cut : (rest : List ℕ) (s : State) → (rest ≡ [] → ⊥) → Blocks (last_piece rest) s
blocks-cut [] s full l said allowed on = full refl
blocks-cut (b ∷ rest) s full l said allowed on = no-cut l (b ∷ rest) said

pub blocks-stop : (rest : List ℕ) (s : State) → rest ≡ [] → is_ended s ≡ false → Blocks (last_piece rest) s
blocks-stop rest s none unfinished l said allowed on = no-stop l s unfinished (said ∙ ap last_piece none) on

-- the whole text
pub finished : (text rest : List ℕ) (at : ℕ) (ts : List Formula) (s : Stage) (c : Certificate) → Reached (pieces text) at (pieces rest) ts s → rest ≡ [] → s ≡ stage.Ended c → IsTextOf ts c text
finished text rest at ts s c r none ended =
    let told : Told ts (stage.Ended c) r.first = subst (λ t. Told ts t r.first) ended r.told in
    let paper = told.tells in
    record {
      sheet = paper.0;
      says = paper.1;
      reads = record {
        regular = paper.2;
        allowed = subst AreAllowed paper.3 (AreAllowed-append r.first (nothing ∷ []) told.allowed (tt, tt));
        said =
            r.said ∙ ap (λ bytes. map say r.first ++ pieces bytes) none
            ∙ sym (map-append say r.first (nothing ∷ []))
            ∙ ap (map say) paper.3;
      };
    }

pub grows-trans : (old mid new : List Formula) → Grows old mid → Grows mid new → Grows old new
grows-trans old mid new g h = record {
  longer = omega (arith, g.longer, h.longer);
  same = λ a live. h.same a (omega (arith, live, g.longer)) ∙ g.same a live;
}

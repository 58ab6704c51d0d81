-- The machine that takes a certificate's text line by line. Only private contracts speak of it: that it does what the
-- lines of certificates say is proved.
use Rattle.std.specs.Prelude.{ℕ, zero, suc, Bool, true, false, ◌&&◌, nat_eq, if◌then◌else◌, List, [], ◌∷◌, ◌++◌, replicate, ⊤}
use Rattle.lw_proof.specs.Break.{arity}
use Rattle.lw_cert.specs.Lines.{Line, heading, logic_is, formula_is, proof_follows, step_is, model_follows, worlds_are, refuted_is, world_is, ending, nothing}

-- what comes next: the heading, the logic, the formula, `proof` or `model`; the steps of a proof, by their depths; the
-- number of worlds, the refuting world, so many worlds from one on; the end of the text; nothing any more. Or no
-- certificate goes on so.
pub data State : Type 0 where
  Start : State
  Headed : State
  Chosen : State
  Named : State
  Proving : (depths : List ℕ) → State
  Sizing : State
  Sized : (worlds : ℕ) → State
  Listing : (worlds next left : ℕ) → State
  Ended : State
  Over : State
  Wrong : State

-- one line
abbrev pub step : Line → State → State
step heading Start = Headed
step (logic_is L) Headed = Chosen
step (formula_is a) Chosen = Named
step proof_follows Named = Proving (1 ∷ [])
step model_follows Named = Sizing
step (step_is d r s) (Proving (e ∷ ds)) = if nat_eq d e then Proving (replicate (arity r) (suc e) ++ ds) else Wrong
step ending (Proving []) = Ended
step (worlds_are n) Sizing = Sized n
step (refuted_is n w) (Sized m) = if nat_eq n m then Listing m 0 m else Wrong
step (world_is n w row) (Listing m i (suc k)) = if nat_eq n m && nat_eq w i then Listing m (suc i) k else Wrong
step ending (Listing m i zero) = Ended
step nothing Ended = Over
step _ _ = Wrong

-- some lines
abbrev pub run : List Line → State → State
run [] s = s
run (l ∷ ls) s = run ls (step l s)

-- some certificate goes on so
abbrev pub IsOnTrack : State → Type 0
IsOnTrack Wrong = ⊥
IsOnTrack _ = ⊤

-- the state is one in the body of a model
abbrev pub is_modelling : State → Bool
is_modelling Sizing = true
is_modelling (Sized n) = true
is_modelling (Listing n i k) = true
is_modelling _ = false

-- the certificate is there, and its text is to be over
abbrev pub is_ended : State → Bool
is_ended Ended = true
is_ended _ = false

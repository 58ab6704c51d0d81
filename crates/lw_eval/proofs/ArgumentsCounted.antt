-- No function takes no arguments, or more than three.
use Rattle.std.proofs.Common.{refl, ◌<◌, ◌⊎◌, List, [], ◌∷◌, length, arith}
use Rattle.lw_formula.specs.Formula.{Formula}
use Rattle.lw_ast.specs.declared.function.Function.{Function}
use Rattle.lw_ast.specs.declared.function.Function.TheVariants.{Provable, Certificate, Interpolate, Fixpoint, Nnf, Simplify, Goedel, Boxdot, Substitute, Vars, Depth, Count, Length, Item, Append, Smallest, Trace, Letterless, Shared}
use Rattle.lw_value.specs.declared.value.Value.{Value}
use Rattle.lw_value.specs.Values.{Val, Vals, empty, item}
use Rattle.lw_eval.specs.declared.trouble.Trouble.TheVariants.{Kind}
use Rattle.lw_eval.specs.Evaluations.{Fails}
use Rattle.lw_eval.specs.Calls.{Calls}
use Rattle.lw_eval.specs.Private.Given.{all_shown_in}

none : (f : Function) → Calls f empty (Fails Kind)
none Provable = refl
none Certificate = refl
none Interpolate = refl
none Fixpoint = refl
none Nnf = refl
none Simplify = refl
none Goedel = refl
none Boxdot = refl
none Substitute = refl
none Vars = refl
none Depth = refl
none Count = refl
none Length = refl
none Item = refl
none Append = refl
none Smallest = refl
none Trace = refl
none Letterless = refl
none Shared = refl

four : (f : Function) (u v w x : Val Formula) (vs : Vals Formula) → Calls f (item u (item v (item w (item x vs)))) (Fails Kind)
four Provable u v w x vs = refl
four Certificate u v w x vs = refl
four Interpolate u v w x vs = refl
four Fixpoint u v w x vs = refl
four Nnf u v w x vs = refl
four Simplify u v w x vs = refl
four Goedel u v w x vs = refl
four Boxdot u v w x vs = refl
four Substitute u v w x vs = refl
four Vars u v w x vs = refl
four Depth u v w x vs = refl
four Count u v w x vs = refl
four Length u v w x vs = refl
four Item u v w x vs = refl
four Append u v w x vs = refl
four Smallest u v w x vs = refl
four Trace u v w x vs = refl
four Letterless u v w x vs = refl
four Shared u v w x vs = refl

pub other_count : (f : Function) (ts : List Formula) (vs : List Value) → (length vs < 1) ⊎ (3 < length vs) → Calls f (all_shown_in ts vs) (Fails Kind)
other_count f ts [] h = none f
other_count f ts (u ∷ []) h = absurd (omega (arith, h))
other_count f ts (u ∷ v ∷ []) h = absurd (omega (arith, h))
other_count f ts (u ∷ v ∷ w ∷ []) h = absurd (omega (arith, h))
other_count f ts (u ∷ v ∷ w ∷ x ∷ vs) h = four f _ _ _ _ _

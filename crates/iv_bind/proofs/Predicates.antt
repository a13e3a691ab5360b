-- The predicate of a query or a policy fits the columns.
use Rattle.std.proofs.Common.{◌≡◌, Bool, true, false, List, Some, Ok, Err, refl, subst, ◌∙◌}
use Rattle.std.specs.Prelude.{◌&&◌, if◌then◌else◌}
use Rattle.iv_rows.specs.declared.value.Kind.{Kind}
use Rattle.iv_rows.specs.declared.value.Kind.TheVariants.{Text}
use Rattle.iv_query.specs.declared.tree.Op.{Op}
use Rattle.iv_query.specs.Trees.{OperandTree, OfColumn, Literal, CurrentUser, PredTree, Either, Both, Negation, Constant, Comparison}
use Rattle.iv_algebra.specs.Predicates.{kind_of, kind_eq, same_kind}
use Rattle.iv_bind.specs.declared.fault.BindWhy.TheVariants as why
use Rattle.iv_bind.specs.Faults.{FaultAt, ◌>>=◌}
use Rattle.iv_algebra.specs.Shapes.{Term, Condition}
use Rattle.iv_algebra.specs.Shapes as shape
use Rattle.iv_bind.specs.Binding.{Named, place_of_operand, comparison_of, column_bound, operand_bound, compare_bound, pred_bound}
use Rattle.iv_query.specs.declared.tree.Dialect.{Dialect}
use Rattle.iv_query.specs.declared.tree.Dialect.TheVariants.{Query, Policy}
use Rattle.iv_query.specs.Well.{IsWellOperand, IsWellPred}
use Rattle.iv_algebra.specs.Fits.{term_kind, condition_fits}
use Rattle.iv_bind.specs.Sound.{user_kind}
use Rattle.iv_bind.proofs.Inversion.{Ok-bind, Ok-then}
use Rattle.iv_bind.proofs.Columns.{kinds_in, slice_get-column_bound}

pub and_parts : (a b : Bool) → (a && b) ≡ true → (a ≡ true) × (b ≡ true)
and_parts true b h = (refl, h)
and_parts false b h = cc

pub and_whole : (a b : Bool) → a ≡ true → b ≡ true → (a && b) ≡ true
and_whole a b h g = (λ i. h i && g i)

operand_kind : (d : Dialect) (scope : List Named) (t : OperandTree) (x : Term × Kind) → IsWellOperand d t → operand_bound scope t ≡ Ok x → term_kind (user_kind d) (kinds_in scope) x.0 ≡ Some x.1
unfolding operand_bound
operand_kind d scope (OfColumn c) x q h =
    let s = Ok-bind (column_bound scope c) (λ y. Ok (shape.Column y.0, y.1)) x h in
    let e : (shape.Column s.0.0, s.0.1) ≡ x = cc in
    let P : Term × Kind → Type 0 = λ y. term_kind (user_kind d) (kinds_in scope) y.0 ≡ Some y.1 in
    subst P e (slice_get-column_bound scope c s.0 s.1)
operand_kind d scope (Literal v p) x q h =
    let e : (shape.Literal v, kind_of v) ≡ x = cc in
    let P : Term × Kind → Type 0 = λ y. term_kind (user_kind d) (kinds_in scope) y.0 ≡ Some y.1 in
    subst P e refl
operand_kind Query scope (CurrentUser p) x q h = absurd q
operand_kind Policy scope (CurrentUser p) x q h =
    let e : (shape.User, Text) ≡ x = cc in
    let P : Term × Kind → Type 0 = λ y. term_kind (user_kind Policy) (kinds_in scope) y.0 ≡ Some y.1 in
    subst P e refl

compared : (d : Dialect) (scope : List Named) (a b : OperandTree) (o : Op) (c : Condition) → IsWellOperand d a → IsWellOperand d b → compare_bound scope a o b ≡ Ok c → condition_fits (user_kind d) (kinds_in scope) c ≡ true
unfolding compare_bound
compared d scope a b o c qa qb h =
    let s = Ok-bind (operand_bound scope a) (λ x. operand_bound scope b >>= λ y. if kind_eq x.1 y.1 then Ok (shape.Compare x.0 (comparison_of o) y.0) else Err (FaultAt (place_of_operand b) why.KindMismatch)) c h in
    let x = s.0 in
    let t = Ok-bind (operand_bound scope b) (λ y. if kind_eq x.1 y.1 then Ok (shape.Compare x.0 (comparison_of o) y.0) else Err (FaultAt (place_of_operand b) why.KindMismatch)) c s.2 in
    let y = t.0 in
    let u = Ok-then (kind_eq x.1 y.1) (Ok (shape.Compare x.0 (comparison_of o) y.0)) (FaultAt (place_of_operand b) why.KindMismatch) c t.2 in
    let e : shape.Compare x.0 (comparison_of o) y.0 ≡ c = cc in
    let P : Condition → Type 0 = λ f. condition_fits (user_kind d) (kinds_in scope) f ≡ true in
    subst P e ((λ i. same_kind (operand_kind d scope a x qa s.1 i) (operand_kind d scope b y qb t.1 i)) ∙ u.0)

pub condition_fits-pred_bound : (d : Dialect) (scope : List Named) (t : PredTree) (c : Condition) → IsWellPred d t → pred_bound scope t ≡ Ok c → condition_fits (user_kind d) (kinds_in scope) c ≡ true
unfolding pred_bound
condition_fits-pred_bound d scope (Either a b) c q h =
    let s = Ok-bind (pred_bound scope a) (λ x. pred_bound scope b >>= λ y. Ok (shape.Or x y)) c h in
    let t = Ok-bind (pred_bound scope b) (λ y. Ok (shape.Or s.0 y)) c s.2 in
    let e : shape.Or s.0 t.0 ≡ c = cc in
    let P : Condition → Type 0 = λ f. condition_fits (user_kind d) (kinds_in scope) f ≡ true in
    subst P e (and_whole (condition_fits (user_kind d) (kinds_in scope) s.0) (condition_fits (user_kind d) (kinds_in scope) t.0) (condition_fits-pred_bound d scope a s.0 q.0 s.1) (condition_fits-pred_bound d scope b t.0 q.1 t.1))
condition_fits-pred_bound d scope (Both a b) c q h =
    let s = Ok-bind (pred_bound scope a) (λ x. pred_bound scope b >>= λ y. Ok (shape.And x y)) c h in
    let t = Ok-bind (pred_bound scope b) (λ y. Ok (shape.And s.0 y)) c s.2 in
    let e : shape.And s.0 t.0 ≡ c = cc in
    let P : Condition → Type 0 = λ f. condition_fits (user_kind d) (kinds_in scope) f ≡ true in
    subst P e (and_whole (condition_fits (user_kind d) (kinds_in scope) s.0) (condition_fits (user_kind d) (kinds_in scope) t.0) (condition_fits-pred_bound d scope a s.0 q.0 s.1) (condition_fits-pred_bound d scope b t.0 q.1 t.1))
condition_fits-pred_bound d scope (Negation a) c q h =
    let s = Ok-bind (pred_bound scope a) (λ x. Ok (shape.Not x)) c h in
    let e : shape.Not s.0 ≡ c = cc in
    let P : Condition → Type 0 = λ f. condition_fits (user_kind d) (kinds_in scope) f ≡ true in
    subst P e (condition_fits-pred_bound d scope a s.0 q s.1)
condition_fits-pred_bound d scope (Constant b) c q h =
    let e : shape.Constant b ≡ c = cc in
    let P : Condition → Type 0 = λ f. condition_fits (user_kind d) (kinds_in scope) f ≡ true in
    subst P e refl
condition_fits-pred_bound d scope (Comparison a o b) c q h =
    compared d scope a b o c q.0 q.1 h

-- What a command ends is open no more, and shows nothing; what it does not end is told no end.
use Rattle.std.proofs.Common.{◌≡◌, ℕ, Bool, true, false, cond, not, ◌||◌, List, [], ◌∷◌, Option, Some, None, is_some, option_map, refl, ap, ◌∙◌, sym, subst, inl, inr}
use Rattle.std.specs.Prelude.{◌⊎◌, ◌==◌, ◌&&◌, filter, flat_map, Contains}
use Rattle.std.specs.List.{AllByRecursion, list_any}
use Rattle.std.proofs.lemmas.Bool.{false≢true, eqb-true}
use Rattle.std.proofs.lemmas.List.Elements.{All-contains, All-from_recursion, Contains-append_left, Contains-append_right, Contains-push}
use Rattle.iv_rows.specs.Options.{if_some}
use Rattle.iv_zset.specs.Weights.{Weighed}
use Rattle.iv_machine.specs.Act.{Command, Line, reply, change, ended}
use Rattle.iv_machine.specs.Lasting.{EndsAreTold, IsToldEnd}
use Rattle.iv_machine.specs.Machine.{Outcome, difference, ending, line_for, lines_told, step}
use Rattle.iv_machine.specs.Reached.{AreUnique}
use Rattle.iv_machine.specs.State.{State, Subscription, shown, subscription_of, view_shown}
use Rattle.iv_machine.specs.declared.Cause.{Cause}
use Rattle.iv_machine.proofs.RunSums.{shown-has_number}
use Rattle.iv_machine.proofs.UniqueNumbers.{has_number, has_number-filter}
use Rattle.iv_clients.specs.Feeds.{ends_in, is_end}
use Rattle.iv_steps.specs.Steps.{Fact, all_carried, among, looked_at, shared, stepped}
use Rattle.iv_gate.proofs.ReplyPlaces.{any_of_both}
use Rattle.iv_gate.proofs.NumberSums.{or-both_false, eq-itself}

line_end : (k : ℕ) (o : Option Cause) (e : Subscription) (rows : Weighed) → list_any (is_end k) (lines_told o e rows) ≡ (is_some o && (k == e.number))
line_end k None e [] = refl
line_end k None e (p ∷ ps) = refl
line_end k (Some why) e rows = by (k == e.number)
  where
    by : (b : Bool) → (b || false) ≡ b
    by true = refl
    by false = refl

pub record IsEnded (ends : Subscription → Option Cause) (es : List Subscription) (k : ℕ) : Type 0 where
  pub subscription : Subscription
  pub found : subscription_of es k ≡ Some subscription
  pub ended : is_some (ends subscription) ≡ true

has_found : (k : ℕ) (es : List Subscription) (x : Subscription) → subscription_of es k ≡ Some x → list_any (λ (e : Subscription). k == e.number) es ≡ true
has_found k [] x h = absurd (no x h)
  where
    no : (x : Subscription) → None ≡ Some x → ⊥
    no x e = cc
has_found k (e ∷ es) x h = by (k == e.number) h (has_found k es x)
  where
    by : (b : Bool) → cond b (Some e) (subscription_of es k) ≡ Some x → (subscription_of es k ≡ Some x → list_any (λ (y : Subscription). k == y.number) es ≡ true) → (b || list_any (λ (y : Subscription). k == y.number) es) ≡ true
    by true g more = refl
    by false g more = more g

-- an end among the lines is the end of a subscription that stood before it
pub IsEnded-ends_in : (k : ℕ) (old new : State) (ends : Subscription → Option Cause) (es : List Subscription) → AreUnique es → ends_in (flat_map (line_for old new ends) es) k ≡ true → IsEnded ends es k
IsEnded-ends_in k old new ends [] u h = absurd (false≢true h)
IsEnded-ends_in k old new ends (e ∷ es) u h =
    by (is_some (ends e)) (k == e.number) refl refl
    (sym (ap (λ b. b || ends_in (flat_map (line_for old new ends) es) k) (line_end k (ends e) e (difference (shown old e.number) (shown new e.number)))) ∙ (sym (any_of_both (is_end k) (line_for old new ends e) (flat_map (line_for old new ends) es)) ∙ h))
    (IsEnded-ends_in k old new ends es u.1)
  where
    later : IsEnded ends es k → (d : Bool) → (k == e.number) ≡ d → IsEnded ends (e ∷ es) k
    later x true f = absurd (false≢true (sym u.0 ∙ (ap (λ i. list_any (λ (y : Subscription). i == y.number) es) (sym (eqb-true k e.number f)) ∙ has_found k es x.subscription x.found)))
    later x false f = record { subscription = x.subscription; found = ap (λ b. cond b (Some e) (subscription_of es k)) f ∙ x.found; ended = x.ended }

    by : (b d : Bool) → is_some (ends e) ≡ b → (k == e.number) ≡ d → ((b && d) || ends_in (flat_map (line_for old new ends) es) k) ≡ true
        → (ends_in (flat_map (line_for old new ends) es) k ≡ true → IsEnded ends es k) → IsEnded ends (e ∷ es) k
    by true true f g i more = record { subscription = e; found = ap (λ b. cond b (Some e) (subscription_of es k)) g; ended = f }
    by true false f g i more = later (more i) false g
    by false d f g i more = later (more i) d g

-- an end among the lines is told to a session
told_to : (k : ℕ) (ls : List Line) → ends_in ls k ≡ true → (n : ℕ) × IsToldEnd n k ls
told_to k [] h = absurd (false≢true h)
told_to k (l ∷ ls) h = by l (λ e. told_to k ls e) h
  where
    later : (l : Line) → (n : ℕ) × IsToldEnd n k ls → (n : ℕ) × IsToldEnd n k (l ∷ ls)
    later l t = (t.0, record { why = t.1.why; rows = t.1.rows; line = Contains-append_right (l ∷ []) ls (ended t.0 k t.1.why t.1.rows) t.1.line })

    test : (m j : ℕ) (why : Cause) (rows : Weighed) (b : Bool) → (k == j) ≡ b → (ends_in ls k ≡ true → (n : ℕ) × IsToldEnd n k ls) → (b || ends_in ls k) ≡ true → (n : ℕ) × IsToldEnd n k (ended m j why rows ∷ ls)
    test m j why rows true q more e = (
      m,
      record {
        why = why;
        rows = rows;
        line = subst (λ i. Contains (ended m j why rows ∷ ls) (ended m i why rows)) (sym (eqb-true k j q))
            (Contains-append_left (ended m j why rows ∷ []) ls (ended m j why rows) (Contains-push [] (ended m j why rows)));
      },
    )
    test m j why rows false q more e = later (ended m j why rows) (more e)

    by : (l : Line) → (ends_in ls k ≡ true → (n : ℕ) × IsToldEnd n k ls) → (is_end k l || ends_in ls k) ≡ true → (n : ℕ) × IsToldEnd n k (l ∷ ls)
    by (reply n r) more e = later (reply n r) (more e)
    by (change n j rows) more e = later (change n j rows) (more e)
    by (ended m j why rows) more e = test m j why rows (k == j) refl more e

no_end : (k : ℕ) (ls : List Line) → ends_in ls k ≡ false → AllByRecursion (λ l. is_end k l ≡ false) ls
no_end k [] h = tt
no_end k (l ∷ ls) h = let p = or-both_false (is_end k l) (ends_in ls k) h in (p.0, no_end k ls p.1)

-- what no line ends is told no end
pub not_IsToldEnd-ends_in : (P : Type 0) (n k : ℕ) (ls : List Line) → ends_in ls k ≡ false → P ⊎ IsToldEnd n k ls → P
not_IsToldEnd-ends_in P n k ls h (inl p) = p
not_IsToldEnd-ends_in P n k ls h (inr t) =
    let other = All-contains (λ l. is_end k l ≡ false) ls (ended n k t.why t.rows) (All-from_recursion (λ l. is_end k l ≡ false) ls (no_end k ls h)) t.line in
    absurd (false≢true (sym other ∙ eq-itself k))

-- what is told its end is open no more
ended_none : (s : State) (k : Command) (j : ℕ) → EndsAreTold s k → ends_in (step s k).lines j ≡ true → subscription_of (step s k).state.frame.subscriptions j ≡ None
ended_none s k j e h = let t = told_to j (step s k).lines h in e.told t.0 j t.1

pub shown-ends_in : (s : State) (k : Command) (j : ℕ) → EndsAreTold s k → ends_in (step s k).lines j ≡ true → shown (step s k).state j ≡ []
shown-ends_in s k j e h = ap (λ o. if_some o [] (view_shown (step s k).state)) (ended_none s k j e h)

-- ---- a step

-- what ends is open no more
gone : (ends : Subscription → Option Cause) (es : List Subscription) (k : ℕ) (x : Subscription) → AreUnique es → subscription_of es k ≡ Some x → is_some (ends x) ≡ true
    → has_number k (filter (λ e. not (is_some (ends e))) es) ≡ false
gone ends [] k x u h w = refl
gone ends (e ∷ es) k x u h w = by (k == e.number) (is_some (ends e)) refl refl h (λ f. gone ends es k x u.1 f w)
  where
    left : List Subscription
    left = filter (λ y. not (is_some (ends y))) es

    by : (b d : Bool) → (k == e.number) ≡ b → is_some (ends e) ≡ d → cond b (Some e) (subscription_of es k) ≡ Some x → (subscription_of es k ≡ Some x → has_number k left ≡ false)
        → has_number k (cond (not d) (e ∷ left) left) ≡ false
    by true true q v f more = has_number-filter k (λ y. not (is_some (ends y))) es (ap (λ i. has_number i es) (eqb-true k e.number q) ∙ u.0)
    by true false q v f more = let same : e ≡ x = cc in absurd (false≢true (sym v ∙ (ap (λ y. is_some (ends y)) same ∙ w)))
    by false true q v f more = more f
    by false false q v f more = (λ i. q i || more f i)

pub shown-stepped : (fs : List Fact) (s : State) (o : Outcome) → AreUnique s.frame.subscriptions → stepped fs s ≡ Some o → (k : ℕ) → ends_in o.lines k ≡ true → shown o.state k ≡ []
shown-stepped fs s o u h k e = by (all_carried fs (shared s)) h
  where
    over : (t : State) → ends_in (looked_at s (among s t)).lines k ≡ true → shown (looked_at s (among s t)).state k ≡ []
    over t f =
        let now = among s t in let new = (looked_at s now).state in let x = IsEnded-ends_in k s new (ending now) s.frame.subscriptions u f in
        shown-has_number new k (gone (ending now) s.frame.subscriptions k x.subscription u x.found x.ended)

    by : (t : Option State) → option_map (λ v. looked_at s (among s v)) t ≡ Some o → shown o.state k ≡ []
    by None f = cc
    by (Some t) f = let same : looked_at s (among s t) ≡ o = cc in subst (λ (z : Outcome). ends_in z.lines k ≡ true → shown z.state k ≡ []) same (over t) e

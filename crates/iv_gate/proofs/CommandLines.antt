-- Commands that change no right, no relation and no row tell only their reply, and a subscribe its contents.
use Rattle.std.proofs.Common.{◌≡◌, ℕ, ◌+◌, ◌≤◌, Bool, true, false, cond, not, List, [], ◌∷◌, ◌++◌, length, map, pos, ◌-ℤ◌, Option, Some, None, is_some, option_map, refl, ap, ◌∙◌, sym, subst, append-nil, arith}
use Rattle.std.specs.Prelude.{◌==◌, filter, flat_map, nat_lt, unwrap_or}
use Rattle.std.specs.List.{AllByRecursion, list_any}
use Rattle.std.proofs.lemmas.Bool.{false≢true, eqb-true}
use Rattle.std.proofs.lemmas.Int.{ints}
use Rattle.std.proofs.lemmas.List.Elements.{recursion_from_All}
use Rattle.std.specs.Ordering.{int_eq}
use Rattle.iv_rows.specs.Cell.{Cell}
use Rattle.iv_rows.specs.Options.{if_some}
use Rattle.iv_zset.specs.Limits.{copies}
use Rattle.iv_access.specs.Access.{role_number}
use Rattle.iv_access.specs.Rights.{Name}
use Rattle.iv_machine.specs.Act.{Act, begin, finish, subscribe, unsubscribe, Line, reply, Refusal, done, subscribed, limit}
use Rattle.iv_machine.specs.Changing.{insert_subscription, opened_by}
use Rattle.iv_machine.specs.Machine.{difference, ending, first_cause, is_change, line_for, lines_told, outcome, rising_rows, step, weighted}
use Rattle.iv_machine.specs.Reached.{AreGiven, AreUnique}
use Rattle.iv_machine.specs.Refusing.{refusal}
use Rattle.iv_machine.specs.Sound.{IsSoundState, MayRead}
use Rattle.iv_machine.specs.State.{Session, State, Subscription, actor, is_open, is_within_for, missing_for, rel_of, session_of, shown, subscription_of, view_for, view_shown}
use Rattle.iv_clients.proofs.Slots.{not_None-Some}
use Rattle.iv_gate.specs.Gate.{in_session, reply_in}
use Rattle.iv_gate.proofs.MachineLists.{find-filter, find-insert_subscription, find-filter_left, find-append, None-or_else_first, None-or_else_later, eq-le_last, test-None}
use Rattle.iv_gate.proofs.SoundSteps.{AllByRecursion-map}
use Rattle.iv_gate.proofs.SoundCommands.{AllByRecursion-filter_not}
use Rattle.iv_gate.proofs.NumberSums.{AllByRecursion-zip, eq-false_turned, or-both_false, eq-itself}

-- ---- subscriptions that stand

-- it is the one of its number, its session is open, and nothing ends it
pub record IsStanding (s : State) (e : Subscription) : Type 0 where
  pub found : subscription_of s.frame.subscriptions e.number ≡ Some e
  pub opened : is_open s.frame e.session ≡ true
  pub served : ending s e ≡ None

none_same : (n : ℕ) (es : List Subscription) → list_any (λ (f : Subscription). n == f.number) es ≡ false → AllByRecursion (λ (f : Subscription). (f.number == n) ≡ false) es
none_same n [] h = tt
none_same n (e ∷ es) h = let p = or-both_false (n == e.number) (list_any (λ (f : Subscription). n == f.number) es) h in (eq-false_turned n e.number p.0, none_same n es p.1)

pub AllByRecursion-subscription_of : (es : List Subscription) → AreUnique es → AllByRecursion (λ (e : Subscription). subscription_of es e.number ≡ Some e) es
AllByRecursion-subscription_of [] u = tt
AllByRecursion-subscription_of (e ∷ es) u = (
  ap (λ b. cond b (Some e) (subscription_of es e.number)) (eq-itself e.number),
  AllByRecursion-zip {P = λ (f : Subscription). (f.number == e.number) ≡ false} {Q = λ (f : Subscription). subscription_of es f.number ≡ Some f} {R = λ (f : Subscription). subscription_of (e ∷ es) f.number ≡ Some f}
      (λ f d h. ap (λ b. cond b (Some e) (subscription_of es f.number)) d ∙ h) es (none_same e.number es u.0) (AllByRecursion-subscription_of es u.1),
)

pub standing : (s : State) → IsSoundState s → AllByRecursion (IsStanding s) s.frame.subscriptions
standing s b =
    let es = s.frame.subscriptions in
    AllByRecursion-zip {P = λ (e : Subscription). subscription_of es e.number ≡ Some e} {Q = λ (e : Subscription). (is_open s.frame e.session ≡ true) × (ending s e ≡ None)} {R = IsStanding s}
    (λ e f p. record { found = f; opened = p.0; served = p.1 }) es (AllByRecursion-subscription_of es b.numbers.unique)
    (AllByRecursion-zip {P = MayRead s.frame} {Q = λ (e : Subscription). ending s e ≡ None} {R = λ (e : Subscription). (is_open s.frame e.session ≡ true) × (ending s e ≡ None)}
    (λ e m p. (m.session, p)) es (recursion_from_All (MayRead s.frame) es b.readers) b.served)

-- ---- nothing differs

no_change : (n : ℕ) → pos n -ℤ pos n ≡ pos 0
no_change n = omega (arith, ints)

unchanged : (xs rows : List (List Cell)) → filter is_change (map (weighted xs xs) rows) ≡ []
unchanged xs [] = refl
unchanged xs (r ∷ rows) =
    ap (λ z. cond (not (int_eq z (pos 0))) (weighted xs xs r ∷ filter is_change (map (weighted xs xs) rows)) (filter is_change (map (weighted xs xs) rows))) (no_change (copies r xs)) ∙ unchanged xs rows

pub no_difference : (xs : List (List Cell)) → difference xs xs ≡ []
no_difference xs = unchanged xs (rising_rows (xs ++ xs))

-- ---- with other sessions and subscriptions

abbrev pub with_open : State → List Session → List Subscription → ℕ → State
with_open s ss es last = record s { frame = record s.frame { sessions = ss; subscriptions = es; last = last } }

module _ (s : State) (ss : List Session) (es : List Subscription) (last : ℕ) where
  -- it acts in the same role, and is the one of its number
  pub record Stays (fs : List Subscription) (e : Subscription) : Type 0 where
    pub same : actor (with_open s ss es last).frame e.session ≡ actor s.frame e.session
    pub found : subscription_of fs e.number ≡ Some e
    pub before : IsStanding s e

  served_still : (fs : List Subscription) (e : Subscription) → Stays fs e → ending (with_open s ss es last) e ≡ None
  served_still fs e x = (λ i. first_cause (is_some (missing_for s.frame (x.same i) e.rel)) (is_within_for s (x.same i) e.rel)) ∙ x.before.served

  pub quiet_line : (fs : List Subscription) (e : Subscription) → Stays fs e → line_for s (with_open s ss fs last) (ending (with_open s ss es last)) e ≡ []
  quiet_line fs e x =
      let view = view_for s (actor s.frame e.session) e.rel in
      let old : shown s e.number ≡ view = ap (λ o. if_some o [] (view_shown s)) x.before.found in
      let new : shown (with_open s ss fs last) e.number ≡ view =
      ap (λ o. if_some o [] (view_shown (with_open s ss fs last))) x.found ∙ ap (λ r. view_for s r e.rel) x.same in
      (λ i. lines_told (served_still fs e x i) e (difference (old i) (new i))) ∙ ap (lines_told None e) (no_difference view)

  pub quiet_lines : (fs xs : List Subscription) → AllByRecursion (Stays fs) xs → flat_map (line_for s (with_open s ss fs last) (ending (with_open s ss es last))) xs ≡ []
  quiet_lines fs [] a = refl
  quiet_lines fs (x ∷ xs) a = λ i. quiet_line fs x a.0 i ++ quiet_lines fs xs a.1 i

  none_ends : (xs : List Subscription) → AllByRecursion (λ (e : Subscription). ending (with_open s ss es last) e ≡ None) xs
      → filter (λ (e : Subscription). not (is_some (ending (with_open s ss es last) e))) xs ≡ xs
  none_ends [] a = refl
  none_ends (x ∷ xs) a =
      let rest = filter (λ (e : Subscription). not (is_some (ending (with_open s ss es last) e))) xs in
      ap (λ o. cond (not (is_some o)) (x ∷ rest) rest) a.0 ∙ ap (λ z. x ∷ z) (none_ends xs a.1)

  each_served : (fs xs : List Subscription) → AllByRecursion (Stays fs) xs → AllByRecursion (λ (e : Subscription). ending (with_open s ss es last) e ≡ None) xs
  each_served fs [] a = tt
  each_served fs (x ∷ xs) a = (served_still fs x a.0, each_served fs xs a.1)

  pub quiet_changes : AllByRecursion (Stays es) es
      → flat_map (line_for s (with_open s ss (filter (λ (e : Subscription). not (is_some (ending (with_open s ss es last) e))) es) last) (ending (with_open s ss es last))) es ≡ []
  quiet_changes a =
      ap (λ fs. flat_map (line_for s (with_open s ss fs last) (ending (with_open s ss es last))) es) (none_ends es (each_served es es a)) ∙ quiet_lines es es a

  -- where one more stands, it alone is told what it shows
  pub new_changes : (e : Subscription) → (xs : List Subscription) → es ≡ insert_subscription e xs → ending (with_open s ss es last) e ≡ None → AllByRecursion (Stays es) xs
      → flat_map (line_for s (with_open s ss (filter (λ (f : Subscription). not (is_some (ending (with_open s ss es last) f))) es) last) (ending (with_open s ss es last))) es
      ≡ lines_told None e (difference (shown s e.number) (shown (with_open s ss (filter (λ (f : Subscription). not (is_some (ending (with_open s ss es last) f))) es) last) e.number))
  new_changes e xs is h a =
      let L = line_for s (with_open s ss es last) (ending (with_open s ss es last)) in
      subst (λ fs. flat_map (line_for s (with_open s ss fs last) (ending (with_open s ss es last))) es ≡ lines_told None e (difference (shown s e.number) (shown (with_open s ss fs last) e.number)))
      (sym (none_ends es (subst (AllByRecursion (λ (f : Subscription). ending (with_open s ss es last) f ≡ None)) (sym is) (inserted xs h (each_served es xs a)))))
      (ap (flat_map L) is ∙ (alone L xs (silent xs a) ∙ ap (λ o. lines_told o e (difference (shown s e.number) (shown (with_open s ss es last) e.number))) h))
    where
      inserted : (ys : List Subscription) → ending (with_open s ss es last) e ≡ None → AllByRecursion (λ (f : Subscription). ending (with_open s ss es last) f ≡ None) ys
          → AllByRecursion (λ (f : Subscription). ending (with_open s ss es last) f ≡ None) (insert_subscription e ys)
      inserted [] h b = (h, tt)
      inserted (y ∷ ys) h b = by (nat_lt e.session y.session) (inserted ys h b.1)
        where
          by : (t : Bool) → AllByRecursion (λ (f : Subscription). ending (with_open s ss es last) f ≡ None) (insert_subscription e ys)
              → AllByRecursion (λ (f : Subscription). ending (with_open s ss es last) f ≡ None) (cond t (e ∷ y ∷ ys) (y ∷ insert_subscription e ys))
          by true more = (h, b)
          by false more = (b.0, more)

      silent : (ys : List Subscription) → AllByRecursion (Stays es) ys → AllByRecursion (λ (f : Subscription). line_for s (with_open s ss es last) (ending (with_open s ss es last)) f ≡ []) ys
      silent [] b = tt
      silent (y ∷ ys) b = (quiet_line es y b.0, silent ys b.1)

      alone : (L : Subscription → List Line) (ys : List Subscription) → AllByRecursion (λ (f : Subscription). L f ≡ []) ys → flat_map L (insert_subscription e ys) ≡ L e
      alone L [] b = append-nil (L e)
      alone L (y ∷ ys) b = by (nat_lt e.session y.session) (alone L ys b.1)
        where
          none : (zs : List Subscription) → AllByRecursion (λ (f : Subscription). L f ≡ []) zs → flat_map L zs ≡ []
          none [] d = refl
          none (z ∷ zs) d = λ i. d.0 i ++ none zs d.1 i

          by : (t : Bool) → flat_map L (insert_subscription e ys) ≡ L e → flat_map L (cond t (e ∷ y ∷ ys) (y ∷ insert_subscription e ys)) ≡ L e
          by true more = ap (λ z. L e ++ z) (none (y ∷ ys) b) ∙ append-nil (L e)
          by false more = (λ i. b.0 i ++ more i)

-- ---- commands that tell nothing but their reply

abbrev pub is_still : Act → Bool
is_still (begin role) = true
is_still finish = true
is_still (unsubscribe k) = true
is_still _ = false

abbrev pub IsReplyAlone : ℕ → List Line → Type 0
IsReplyAlone n ls = ls ≡ reply n (reply_in ls) ∷ []

begin_still : (s : State) (n : ℕ) (role : Name) (o : Option Refusal) → IsSoundState s → IsReplyAlone n (outcome s (in_session n (begin role)) o).lines
begin_still s n role (Some r) b = refl
begin_still s n role None b =
    let ss : List Session = s.frame.sessions ++ record { number = n; role = role_number s.frame.rights role } ∷ [] in
    ap (λ z. reply n done ∷ z) (quiet_changes s ss s.frame.subscriptions s.frame.last
    (AllByRecursion-map {P = IsStanding s} {Q = Stays s ss s.frame.subscriptions s.frame.last s.frame.subscriptions}
    (λ e x. record {
      same = ap (λ o. unwrap_or (option_map (λ (y : Session). y.role) o) (length s.frame.rights.roles))
          (find-append (λ (y : Session). e.session == y.number) s.frame.sessions (record { number = n; role = role_number s.frame.rights role } ∷ []) (session_of s.frame.sessions e.session) refl x.opened);
      found = x.found;
      before = x;
    }) s.frame.subscriptions (standing s b)))

finish_still : (s : State) (n : ℕ) (o : Option Refusal) → IsSoundState s → IsReplyAlone n (outcome s (in_session n finish) o).lines
finish_still s n (Some r) b = refl
finish_still s n None b =
    let ss = filter (λ (y : Session). not (n == y.number)) s.frame.sessions in let es = filter (λ (y : Subscription). not (n == y.session)) s.frame.subscriptions in
    ap (λ z. reply n done ∷ z) (quiet_changes s ss es s.frame.last
    (AllByRecursion-filter_not (Stays s ss es s.frame.last es) (λ (y : Subscription). n == y.session) s.frame.subscriptions
    (AllByRecursion-map {P = IsStanding s} {Q = λ (e : Subscription). (n == e.session) ≡ false → Stays s ss es s.frame.last es e}
    (λ e x ne. record {
      same = ap (λ o. unwrap_or (option_map (λ (y : Session). y.role) o) (length s.frame.rights.roles))
          (find-filter (λ (y : Session). e.session == y.number) (λ (y : Session). not (n == y.number)) s.frame.sessions
          (λ y h. ap (λ i. not (n == i)) (sym (eqb-true e.session y.number h)) ∙ ap not ne));
      found =
          find-filter_left (λ (y : Subscription). e.number == y.number) (λ (y : Subscription). not (n == y.session)) s.frame.subscriptions e x.found (ap not ne);
      before = x;
    }) s.frame.subscriptions (standing s b))))

close_still : (s : State) (n k : ℕ) (o : Option Refusal) → IsSoundState s → IsReplyAlone n (outcome s (in_session n (unsubscribe k)) o).lines
close_still s n k (Some r) b = refl
close_still s n k None b =
    let es = filter (λ (y : Subscription). not (k == y.number)) s.frame.subscriptions in
    ap (λ z. reply n done ∷ z) (quiet_changes s s.frame.sessions es s.frame.last
    (AllByRecursion-filter_not (Stays s s.frame.sessions es s.frame.last es) (λ (y : Subscription). k == y.number) s.frame.subscriptions
    (AllByRecursion-map {P = IsStanding s} {Q = λ (e : Subscription). (k == e.number) ≡ false → Stays s s.frame.sessions es s.frame.last es e}
    (λ e x ne. record {
      same = refl;
      found =
          find-filter_left (λ (y : Subscription). e.number == y.number) (λ (y : Subscription). not (k == y.number)) s.frame.subscriptions e x.found (ap not ne);
      before = x;
    }) s.frame.subscriptions (standing s b))))

pub IsReplyAlone-is_still : (s : State) (n : ℕ) (act : Act) → is_still act ≡ true → IsSoundState s → IsReplyAlone n (step s (in_session n act)).lines
IsReplyAlone-is_still s n (begin role) h b = begin_still s n role (refusal s n (begin role)) b
IsReplyAlone-is_still s n finish h b = finish_still s n (refusal s n finish) b
IsReplyAlone-is_still s n (unsubscribe k) h b = close_still s n k (refusal s n (unsubscribe k)) b
IsReplyAlone-is_still s n _ h b = absurd (false≢true h)

-- ---- a subscribe tells its contents

none_mapped : {X Y : Type 0} (f : X → Y) (o : Option X) → option_map f o ≡ None → o ≡ None
none_mapped f None h = refl
none_mapped f (Some x) h = absurd (not_None-Some (f x) h)

pub true-not_false : (b : Bool) → not b ≡ false → b ≡ true
true-not_false true h = refl
true-not_false false h = absurd (false≢true (sym h))

given_each : (last : ℕ) (es : List Subscription) → AreGiven last es → AllByRecursion (λ (e : Subscription). e.number ≤ last) es
given_each last [] h = tt
given_each last (e ∷ es) h = (h.0, given_each last es h.1)

subscribed_by : (s : State) (n : ℕ) (rel : Name) (o : Option Refusal) → o ≡ None → refusal s n (subscribe rel) ≡ None → IsSoundState s
    → (outcome s (in_session n (subscribe rel)) o).lines ≡ reply n (subscribed (s.frame.last + 1))
    ∷ lines_told None (opened_by s.frame n rel) (difference (shown s (s.frame.last + 1)) (shown (outcome s (in_session n (subscribe rel)) o).state (s.frame.last + 1)))
subscribed_by s n rel (Some r) h z b = absurd (not_None-Some r h)
subscribed_by s n rel None h z b =
    let e = opened_by s.frame n rel in let es = insert_subscription e s.frame.subscriptions in
    let lacks : missing_for s.frame (actor s.frame n) (rel_of s.frame.catalog rel) ≡ None = none_mapped _ _ (None-or_else_first _ _ (None-or_else_later _ _ (None-or_else_later _ _ (None-or_else_first _ _ z)))) in
    let fits : is_within_for s (actor s.frame n) (rel_of s.frame.catalog rel) ≡ true = true-not_false _ (test-None _ limit (None-or_else_later _ _ z)) in
    let served : ending (with_open s s.frame.sessions es (s.frame.last + 1)) e ≡ None = (λ i. first_cause (is_some (lacks i)) (fits i)) in
    ap (λ z. reply n (subscribed (s.frame.last + 1)) ∷ z) (new_changes s s.frame.sessions es (s.frame.last + 1) e s.frame.subscriptions refl served
    (AllByRecursion-zip {P = IsStanding s} {Q = λ (f : Subscription). f.number ≤ s.frame.last} {R = Stays s s.frame.sessions es (s.frame.last + 1) es}
    (λ f x l. record {
      same = refl;
      found = find-insert_subscription f.number e f s.frame.subscriptions
          (eq-le_last f.number s.frame.last l) x.found;
      before = x;
    })
    s.frame.subscriptions (standing s b) (given_each s.frame.last s.frame.subscriptions b.numbers.given)))

-- the new one is told what it shows, where it shows anything
pub lines-subscribe : (s : State) (n : ℕ) (rel : Name) → refusal s n (subscribe rel) ≡ None → IsSoundState s
    → (step s (in_session n (subscribe rel))).lines ≡ reply n (subscribed (s.frame.last + 1))
    ∷ lines_told None (opened_by s.frame n rel) (difference (shown s (s.frame.last + 1)) (shown (step s (in_session n (subscribe rel))).state (s.frame.last + 1)))
lines-subscribe s n rel z b = subscribed_by s n rel (refusal s n (subscribe rel)) z z b

-- What a gateway that leads its log has not on disk yet is the next steps of that.
use Rattle.std.proofs.Common.{◌≡◌, ℕ, ◌+◌, ◌≤◌, ◌⊎◌, inl, inr, Bool, true, false, cond, ◌&&◌, is_some, not, List, [], ◌∷◌, ◌++◌, drop, length, map, take, Option, Some, None, refl, ap, ◌∙◌, sym, subst, append-nil, arith}
use Rattle.std.specs.Prelude.{unwrap_or}
use Rattle.std.proofs.lemmas.Bool.{false≢true}
use Rattle.std.proofs.Math.Seq.{drop-length}
use Rattle.std.proofs.lemmas.List.{drop-append-le, length-append, take-append-drop, take-append-le}
use Rattle.iv_rows.specs.Options.{if_some}
use Rattle.iv_records.specs.Journal.{Entry, position_of}
use Rattle.iv_records.specs.Names.{is_count}
use Rattle.iv_clients.specs.Tokens.{Token}
use Rattle.iv_steps.specs.Steps.{stepped}
use Rattle.iv_gate.specs.Arriving.{AreNext, Fault, Step, decided_here, entry_of, fact_of, fault_of, landed, position, settled_at, takes, was_taken}
use Rattle.iv_gate.specs.Events.{Event, presented, message, gone, known, ticked, synced, handed, arrived, forgave, failed, after, happens, next, led}
use Rattle.iv_gate.specs.Gate.{Gate, Head, token_for}
use Rattle.iv_gate.specs.Implied.{AddsNext, DecidesNext}
use Rattle.iv_gate.specs.Replies.{added_by}
use Rattle.iv_gate.proofs.EventMarks.{came_as, entries-next, marks-next, next-alive, next-dead, sign-came_as, sign-went}
use Rattle.iv_gate.proofs.EventSigns.{Sign}
use Rattle.iv_gate.proofs.LogPositions.{position_append}
use Rattle.iv_gate.proofs.NextEntries.{AddsNext-message}

-- ---- positions

AreNext-push : (p : ℕ) (es : List Entry) (e : Entry) → AreNext p es → e.position ≡ Some (position_of p es + 1) → AreNext p (es ++ e ∷ [])
AreNext-push p [] e a h = (h, tt)
AreNext-push p (d ∷ es) e a h = (a.0, AreNext-push (p + 1) es e a.1 (h ∙ ap (λ o. Some (position_of (unwrap_or o p) es + 1)) a.0))

-- what an event leaves of where the log is
record Place : Type 0 where
  head : Head
  kept : ℕ
  leads : Bool
  entries : List Entry

abbrev place : Gate → Place
place g = record { head = g.head; kept = g.kept; leads = g.leads; entries = g.entries }

abbrev settled : Place → ℕ
settled x = position_of x.head.position (take x.kept x.entries)

-- it leads, and what is not on disk is next
record IsLeader (x : Place) : Type 0 where
  log : is_some x.head.log ≡ true
  leads : x.leads ≡ true
  kept : x.kept ≤ length x.entries
  are : AreNext (settled x) (drop x.kept x.entries)

position_behind : (g : Gate) → position_of (settled_at g) (drop g.kept g.entries) ≡ position g
position_behind g = sym (position_append g.head.position (take g.kept g.entries) (drop g.kept g.entries)) ∙ ap (position_of g.head.position) (take-append-drop g.kept g.entries)

-- ---- what is added

-- nothing, or the next step
abbrev IsStep : Gate → List Entry → Type 0
IsStep g es = (es ≡ []) ⊎ ((e : Entry) × (es ≡ e ∷ []) × (e.position ≡ Some (position g + 1)))

IsStep-AddsNext : (g : Gate) → is_some g.head.log ≡ true → (es : List Entry) → AddsNext g es → IsStep g es
IsStep-AddsNext g log es (inl e) = inl e
IsStep-AddsNext g log es (inr e) = inr (e.0, e.1, e.2 ∙ by (g.leads && is_count (position g + 1)) e.3)
  where
    by : (b : Bool) → (is_some g.head.log && not (is_some (cond b (Some (position g + 1)) None))) ≡ false → cond b (Some (position g + 1)) None ≡ Some (position g + 1)
    by true f = refl
    by false f = absurd (false≢true (sym f ∙ ap (λ l. l && true) log))

added : (g : Gate) (more : List Entry) → IsStep g more → AreNext (settled_at g) (drop g.kept g.entries) → AreNext (settled_at g) (drop g.kept g.entries ++ more)
added g more (inl e) a = subst (AreNext (settled_at g)) (sym (ap (λ z. drop g.kept g.entries ++ z) e ∙ append-nil (drop g.kept g.entries))) a
added g more (inr e) a =
    subst (λ z. AreNext (settled_at g) (drop g.kept g.entries ++ z)) (sym e.1)
    (AreNext-push (settled_at g) (drop g.kept g.entries) e.0 a (e.2 ∙ ap (λ p. Some (p + 1)) (sym (position_behind g))))

grown : (g : Gate) (more : List Entry) → IsStep g more → IsLeader (place g) → IsLeader (record (place g) { entries = g.entries ++ more })
grown g more s x =
    let taken : take g.kept (g.entries ++ more) ≡ take g.kept g.entries = take-append-le g.kept g.entries more x.kept in
    let left : drop g.kept (g.entries ++ more) ≡ drop g.kept g.entries ++ more = drop-append-le g.kept g.entries more x.kept in record {
      log = x.log;
      leads = x.leads;
      kept = omega (arith, x.kept, length-append g.entries more);
      are = subst (λ es. AreNext (position_of g.head.position es) (drop g.kept (g.entries ++ more))) (sym taken) (subst (AreNext (settled_at g)) (sym left) (added g more s x.are));
    }

-- ---- what happens

all_kept : (g : Gate) → is_some g.head.log ≡ true → g.leads ≡ true → IsLeader (record (place g) { kept = length g.entries })
all_kept g log leads = record {
  log = log;
  leads = leads;
  kept = omega arith;
  are = subst (AreNext (position_of g.head.position (take (length g.entries) g.entries))) (sym (drop-length g.entries)) tt;
}

abbrev of_sign : Sign → Place
of_sign s = record { head = s.marks.head; kept = s.marks.kept; leads = s.marks.leads; entries = s.entries }

-- who leads takes no step
place-takes : (g : Gate) (s : Step) → g.leads ≡ true → place (takes g s) ≡ place g
place-takes g s l = by (is_some (fault_of g s)) (fails g.leads _ l)
  where
    fails : (b : Bool) (o : Option Fault) → b ≡ true → is_some (cond b (Some decided_here) o) ≡ true
    fails true o h = refl
    fails false o h = absurd (false≢true h)

    by : (b : Bool) → b ≡ true → place (cond b (record g { dead = true }) (cond (was_taken g s) g (if_some (stepped (map fact_of s.requests) g.machine) g (landed g (entry_of s))))) ≡ place g
    by true h = refl
    by false h = absurd (false≢true h)

leads_on : (g : Gate) (e : Event) → g.dead ≡ false → IsLeader (place g) → IsLeader (place (happens g e))
leads_on g (presented m token) d x = subst IsLeader (sym (by (token_for g m token))) x
  where
    by : (o : Option Token) → place (if_some o g (came_as g m)) ≡ place g
    by None = refl
    by (Some t) = ap of_sign (sign-came_as g m t)
leads_on g (message m text) d x =
    let e = message m text in let more = added_by g e in let marks = marks-next g e d in let entries = entries-next g e d in
    let is : place (next g e) ≡ record (place g) { entries = g.entries ++ more } =
    λ i. record { head = (marks i).head; kept = (marks i).kept; leads = (marks i).leads; entries = entries i } in
    subst (λ h. IsLeader (place h)) (next-alive g e d) (subst IsLeader (sym is) (grown g more (IsStep-AddsNext g x.log more (AddsNext-message g m text)) x))
leads_on g (gone m) d x = subst IsLeader (sym (ap of_sign (sign-went g m))) x
leads_on g (known tokens) d x = x
leads_on g ticked d x = x
leads_on g synced d x = all_kept g x.log x.leads
leads_on g (handed m) d x = x
leads_on g (arrived s) d x = subst IsLeader (sym (place-takes g s x.leads)) x
leads_on g led d x = record { log = x.log; leads = x.log; kept = x.kept; are = x.are }
leads_on g forgave d x = x
leads_on g failed d x = x

IsLeader-next : (g : Gate) (e : Event) → IsLeader (place g) → IsLeader (place (next g e))
IsLeader-next g e x = by g.dead refl
  where
    by : (b : Bool) → g.dead ≡ b → IsLeader (place (next g e))
    by true d = subst (λ h. IsLeader (place h)) (sym (next-dead g e d)) x
    by false d = subst (λ h. IsLeader (place h)) (sym (next-alive g e d)) (leads_on g e d x)

IsLeader-after : (g : Gate) (es : List Event) → IsLeader (place g) → IsLeader (place (after g es))
IsLeader-after g [] x = x
IsLeader-after g (e ∷ es) x = IsLeader-after (next g e) es (IsLeader-next g e x)

pub DecidesNext-after : (g : Gate) (es : List Event) → DecidesNext g es
DecidesNext-after g es l =
    (IsLeader-after g es (subst (λ k. IsLeader (record (place g) { kept = k })) (sym l.disk) (all_kept g l.log l.leads))).are

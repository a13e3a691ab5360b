-- A holder has no more refused names that are not forgiven than it may add.
use Rattle.std.proofs.Common.{◌≡◌, ℕ, ◌+◌, ◌≤◌, ◌<◌, Bool, true, false, cond, not, List, [], ◌∷◌, ◌++◌, drop, length, Option, Some, None, is_some, refl, ap, ◌∙◌, sym, subst, arith}
use Rattle.std.specs.Prelude.{◌&&◌, bytes_eq, count_by, nat_le}
use Rattle.std.proofs.Math.Seq.{drop-length}
use Rattle.std.proofs.lemmas.List.{drop-append-le, length-append}
use Rattle.std.proofs.lemmas.List.Concat.{flat_map-append}
use Rattle.std.proofs.lemmas.List.Sums.{sum_by-append}
use Rattle.iv_rows.specs.Options.{if_some}
use Rattle.iv_machine.specs.Act.{Reply}
use Rattle.iv_message.specs.Message.{Message}
use Rattle.iv_clients.specs.Clients.{Client, Shown, client_at, may_say}
use Rattle.iv_records.specs.Journal.{Entry, Request, claim_said, names_in, said_by}
use Rattle.iv_records.specs.Names.{Claim, limits}
use Rattle.iv_clients.specs.Tokens.{Token}
use Rattle.iv_journal.specs.Journal.{Line}
use Rattle.iv_once.specs.Names.{Ask, Named, Verdict, is_over, spent_by, verdict}
use Rattle.iv_once.proofs.Lists.{lt-nat_le_false, same-bytes_eq}
use Rattle.iv_gate.specs.Arriving.{Step, fault_of, takes}
use Rattle.iv_gate.specs.Events.{Event, presented, message, gone, known, ticked, synced, handed, arrived, forgave, failed, happens, next, led}
use Rattle.iv_gate.specs.Gate.{Gate, Head, Log, answering, asked_by, entries_of, hears, is_accepted, names_of, said, spent_in, token_for, next_position, is_elsewhere}
use Rattle.iv_gate.specs.Replies.{refused_by}
use Rattle.iv_gate.specs.Restoring.{Restores, gate_at_start}
use Rattle.iv_gate.specs.Runs.{Runs, begins, goes_on, begins_again}
use Rattle.iv_gate.proofs.NameVerdicts.{Reason, has_to_wait, is_again, is_ahead, is_another, is_carried, is_foreign, is_late, Reason-verdict, spent_by-count_by}
use Rattle.iv_gate.proofs.OwnReplies.{added_so, entries-done_for, asked, carried_reply, decided_added, said_added, shared_added, verdict_added}
use Rattle.iv_gate.proofs.EventSigns.{Sign, marks, IsHeardSign-hears}
use Rattle.iv_gate.proofs.NumberSums.{or-both_false}
use Rattle.iv_gate.proofs.EventMarks.{came_as, sign-came_as, sign-takes, taken_by, sign-went}

-- ---- counts

abbrev refused_in : List ℕ → List Named → ℕ
refused_in holder es = count_by (λ (e : Named). e.refused && bytes_eq e.ask.holder holder) es

refused_both : (holder : List ℕ) (es fs : List Entry) → refused_in holder (names_in (es ++ fs)) ≡ refused_in holder (names_in es) + refused_in holder (names_in fs)
refused_both holder es fs =
    ap (refused_in holder) (flat_map-append (λ (e : Entry). e.names) es fs)
    ∙ sum_by-append (λ (e : Named). cond (e.refused && bytes_eq e.ask.holder holder) 1 0) (names_in es) (names_in fs)

-- ---- what is looked at of a gateway

record View : Type 0 where
  head : Head
  forgiven : ℕ
  entries : List Entry

abbrev view : Gate → View
view g = record { head = g.head; forgiven = g.forgiven; entries = g.entries }

abbrev view_of : Sign → View
view_of s = record { head = s.marks.head; forgiven = s.marks.forgiven; entries = s.entries }

-- the names that count are of entries, and where no log is followed they are no more than may be
record IsSpent (v : View) : Type 0 where
  forgiven : v.forgiven ≤ length v.entries
  spent : v.head.log ≡ None → (holder : List ℕ) → refused_in holder (names_in (drop v.forgiven v.entries)) ≤ limits.refusals

-- the entries leave room for what stands in these
abbrev HasRoom : View → List Entry → Type 0
HasRoom v es = v.head.log ≡ None → (holder : List ℕ) → refused_in holder (names_in (drop v.forgiven v.entries)) + refused_in holder (names_in es) ≤ limits.refusals

more_spent : (v : View) (es : List Entry) → HasRoom v es → IsSpent v → IsSpent (record v { entries = v.entries ++ es })
more_spent v es room a = record {
  forgiven = let l = length-append v.entries es in let f = a.forgiven in omega (arith, l, f);
  spent = λ n holder. subst (λ k. k ≤ limits.refusals)
      (sym (ap (λ z. refused_in holder (names_in z)) (drop-append-le v.forgiven v.entries es a.forgiven) ∙ refused_both holder (drop v.forgiven v.entries) es)) (room n holder);
}

none_more : (v : View) → IsSpent v → HasRoom v []
none_more v a n holder = let l = a.spent n holder in omega (arith, l)

-- ---- a message

log_there : (o : Option Log) → o ≡ None → is_some o ≡ false
log_there o h = ap is_some h

no_names : (v : View) (position : Option ℕ) (b : Bool) (q : Request) (r : Reply) → IsSpent v → HasRoom v (cond b (record { requests = cond (is_accepted r) (q ∷ []) []; names = []; position = position } ∷ []) [])
no_names v position true q r a n holder = let l = a.spent n holder in omega (arith, l)
no_names v position false q r a n holder = let l = a.spent n holder in omega (arith, l)

-- one name more, of a holder who had not to wait
one_name : (g : Gate) (q : Request) (a : Ask) (r : Reply) (b : Bool) → is_over (names_of g) a.holder ≡ false → IsSpent (view g)
    → HasRoom (view g) (cond b (record { requests = cond (is_accepted r) (q ∷ []) []; names = answering (Some a) r; position = next_position g } ∷ []) [])
one_name g q a r false w s n holder = let l = s.spent n holder in omega (arith, l)
one_name g q a r true w s n holder = by (bytes_eq a.holder holder) refl (not (is_accepted r))
  where
    before : List ℕ → ℕ
    before h = refused_in h (names_in (drop g.forgiven g.entries))

    less : before a.holder < 64
    less = subst (λ k. k < 64) (spent_by-count_by (names_in (drop g.forgiven g.entries)) a.holder)
        (lt-nat_le_false 64 (spent_by (spent_in (names_in (drop g.forgiven g.entries))) a.holder) (or-both_false (nat_le 64 (spent_by (spent_in (names_in (drop g.forgiven g.entries))) a.holder)) _ w).0)

    by : (d : Bool) → bytes_eq a.holder holder ≡ d → (x : Bool) → before holder + (0 + cond (x && bytes_eq a.holder holder) 1 0) ≤ 64
    by true e true =
        let here : before holder < 64 = subst (λ h. before h < 64) (same-bytes_eq a.holder holder e) less in
        subst (λ t. before holder + (0 + cond (true && t) 1 0) ≤ 64) (sym e) (omega (arith, here))
    by false e true = let l = s.spent n holder in subst (λ t. before holder + (0 + cond (true && t) 1 0) ≤ 64) (sym e) (omega (arith, l))
    by d e false = let l = s.spent n holder in omega (arith, l)

module _ (g : Gate) (s : IsSpent (view g)) where
  decided_room : (q : Request) (name : Option Ask) → ((a : Ask) → name ≡ Some a → is_over (names_of g) a.holder ≡ false) → HasRoom (view g) (decided_added g q name)
  decided_room q name w = by (is_elsewhere g name)
    where
      entries : (o : Option Ask) → ((a : Ask) → o ≡ Some a → is_over (names_of g) a.holder ≡ false) → HasRoom (view g) (entries_of (next_position g) q o (carried_reply g q))
      entries None v = no_names (view g) (next_position g) _ q (carried_reply g q) s
      entries (Some a) v = one_name g q a (carried_reply g q) _ (v a refl) s

      by : (b : Bool) → HasRoom (view g) (cond b [] (entries_of (next_position g) q name (carried_reply g q)))
      by true = none_more (view g) s
      by false = entries name w

  verdict_room : (q : Request) (a : Ask) (v : Verdict) → Reason (names_of g) a v → HasRoom (view g) (verdict_added g q a v)
  verdict_room q a _ (is_carried f w d) = decided_room q (Some a) (λ b e. ap (λ (z : Ask). is_over (names_of g) z.holder) (same b e) ∙ w)
    where
      same : (b : Ask) → Some a ≡ Some b → b ≡ a
      same b e = cc
  verdict_room q a _ (is_again x f t) = none_more (view g) s
  verdict_room q a _ (is_another x f t) = none_more (view g) s
  verdict_room q a _ (is_late f p t) = none_more (view g) s
  verdict_room q a _ (is_foreign f t) = none_more (view g) s
  verdict_room q a _ (is_ahead f t) = none_more (view g) s
  verdict_room q a _ (has_to_wait f t) = none_more (view g) s

  shared_room : (c : Client) (q : Request) (claim : Option Claim) → HasRoom (view g) (shared_added g c q claim)
  shared_room c q None = decided_room q None (λ a e. never a e)
    where
      never : (a : Ask) → None ≡ Some a → is_over (names_of g) a.holder ≡ false
      never a e = cc
  shared_room c q (Some k) = let a = asked_by c q.line k in verdict_room q a (verdict (names_of g) a) (Reason-verdict (names_of g) a)

  said_room : (c : Client) (text : List ℕ) (m : Message) → HasRoom (view g) (said_added g c text m)
  said_room c text m = added_so (HasRoom (view g)) g c text (none_more (view g) s) (λ q. shared_room c q (claim_said text)) m

hears_spent : (g : Gate) (m : ℕ) (c : Client) (text : List ℕ) → IsSpent (view g) → IsSpent (view (hears g m c text))
hears_spent g m c text s =
    let x = IsHeardSign-hears g m c text in let more = said_added (asked g m text) c text (said_by text) in
    let same : view (hears g m c text) ≡ record (view g) { entries = g.entries ++ more } =
    ap view_of x.sign ∙ ap (λ z. record (view g) { entries = z }) (entries-done_for (asked g m text) m c text (said_by text)) in
    subst IsSpent (sym same) (more_spent (view g) more (said_room (asked g m text) s c text (said_by text)) s)

said_spent : (g : Gate) (m : ℕ) (text : List ℕ) → IsSpent (view g) → IsSpent (view (said g m text))
said_spent g m text s = by (client_at g.clients m)
  where
    heard : (c : Client) (b : Bool) → IsSpent (view (cond b (hears g m c text) g))
    heard c true = hears_spent g m c text s
    heard c false = s

    by : (o : Option Client) → IsSpent (view (if_some o g (λ c. cond (may_say c) (hears g m c text) g)))
    by None = s
    by (Some c) = heard c (may_say c)

-- ---- each event

-- where no log is followed no step is taken
takes_spent : (g : Gate) (x : Step) → IsSpent (view g) → IsSpent (view (takes g x))
takes_spent g x s = subst IsSpent (sym same) (more_spent (view g) (taken_by g x) room s)
  where
    same : view (takes g x) ≡ record (view g) { entries = g.entries ++ taken_by g x }
    same = ap view_of (sign-takes g x) ∙ by (is_some (fault_of g x))
      where
        by : (b : Bool) → view_of (record { marks = cond b (record (marks g) { dead = true }) (marks g); entries = g.entries ++ taken_by g x; slots = [] }) ≡ record (view g) { entries = g.entries ++ taken_by g x }
        by true = refl
        by false = refl

    none_taken : (o : Option Log) (leads : Bool) → o ≡ None → taken_by (record g { head = record g.head { log = o }; leads = leads }) x ≡ []
    none_taken None true h = refl
    none_taken None false h = refl
    none_taken (Some l) leads h = cc

    room : HasRoom (view g) (taken_by g x)
    room n holder = subst (λ es. refused_in holder (names_in (drop g.forgiven g.entries)) + refused_in holder (names_in es) ≤ 64) (sym (none_taken g.head.log g.leads n)) (none_more (view g) s n holder)

happens_spent : (g : Gate) (e : Event) → IsSpent (view g) → IsSpent (view (happens g e))
happens_spent g (presented m token) s = by (token_for g m token)
  where
    by : (o : Option Token) → IsSpent (view (if_some o g (came_as g m)))
    by None = s
    by (Some t) = subst IsSpent (sym (ap view_of (sign-came_as g m t))) s
happens_spent g (message m text) s = said_spent g m text s
happens_spent g (gone m) s = subst IsSpent (sym (ap view_of (sign-went g m))) s
happens_spent g (known tokens) s = s
happens_spent g ticked s = s
happens_spent g synced s = s
happens_spent g (handed m) s = s
happens_spent g (arrived x) s = takes_spent g x s
happens_spent g led s = s
happens_spent g forgave s = record {
  forgiven = omega arith;
  spent = λ n holder. subst (λ es. refused_in holder (names_in es) ≤ 64) (sym (drop-length g.entries)) (omega arith);
}
happens_spent g failed s = s

next_spent : (g : Gate) (e : Event) → IsSpent (view g) → IsSpent (view (next g e))
next_spent g e s = by g.dead
  where
    by : (b : Bool) → IsSpent (view (cond b g (happens g e)))
    by true = s
    by false = happens_spent g e s

restored_spent : (cap : ℕ) (tokens : List Token) (most : ℕ) (head : Head) (sent : List Shown) (journal : List Line) (g : Gate) → Restores (gate_at_start cap tokens most head sent) journal g → IsSpent (view g)
restored_spent cap tokens most head sent journal g r = subst (λ x. IsSpent (view x)) (sym r.leads.gate) (record {
  forgiven = omega arith;
  spent = λ n holder. subst (λ es. refused_in holder (names_in es) ≤ 64) (sym (drop-length g.entries)) (omega arith);
})

runs_spent : (cap : ℕ) (g : Gate) → Runs cap g → IsSpent (view g)
runs_spent cap _ (begins tokens most head journal g r) = restored_spent cap tokens most head [] journal g r
runs_spent cap _ (goes_on h e w r) = next_spent h e (runs_spent cap h r)
runs_spent cap _ (begins_again h disk tokens most i r l x) = restored_spent cap tokens most h.head h.sent disk i x

pub le-refused_by : (cap : ℕ) (g : Gate) → Runs cap g → g.head.log ≡ None → (holder : List ℕ) → refused_by g holder ≤ limits.refusals
le-refused_by cap g r n holder = (runs_spent cap g r).spent n holder

-- What a message adds is one entry at most, at the next position.
use Rattle.std.proofs.Common.{◌≡◌, inl, inr, ℕ, Bool, true, false, cond, ◌&&◌, is_some, not, List, [], ◌∷◌, ◌++◌, length, Option, Some, None, refl, ap, ◌∙◌, sym, subst, append-nil}
use Rattle.std.specs.Prelude.{drop}
use Rattle.iv_rows.specs.Options.{if_some}
use Rattle.iv_machine.specs.Act.{Act, begin, finish, create_role, create_table, create_view, grant, revoke, grant_role, revoke_role, row_security, create_policy, drop_policy, subscribe, unsubscribe, write, Reply}
use Rattle.iv_message.specs.Message.{Message, no_json, too_long, no_object, no_request, request}
use Rattle.iv_clients.specs.Clients.{Client, client_at, may_say}
use Rattle.iv_records.specs.Journal.{Entry, Request, claim_said, said_by}
use Rattle.iv_records.specs.Names.{Claim}
use Rattle.iv_once.specs.Names.{Ask, Verdict, carry, again, another, late, foreign, ahead, over, verdict}
use Rattle.iv_gate.specs.Events.{message}
use Rattle.iv_gate.specs.Gate.{Gate, answering, asked_by, entries_of, hears, is_accepted, is_elsewhere, is_follower, may_have, names_of, next_position, said}
use Rattle.iv_gate.specs.Implied.{AddsNext}
use Rattle.iv_gate.specs.Replies.{added_by}
use Rattle.iv_gate.proofs.GrownTexts.{drop-append_front}
use Rattle.iv_gate.proofs.OwnReplies.{act_added, asked, carried_reply, decided_added, entries-done_for, said_added, shared_added, verdict_added}
use Rattle.iv_gate.proofs.StepRelations.{request_of}

module _ (g : Gate) where
  entry_next : (q : Request) (name : Option Ask) (r : Reply) → is_follower g ≡ false → (b : Bool)
      → AddsNext g (cond b (record { requests = cond (is_accepted r) (q ∷ []) []; names = answering name r; position = next_position g } ∷ []) [])
  entry_next q name r f true = inr (record { requests = cond (is_accepted r) (q ∷ []) []; names = answering name r; position = next_position g }, refl, refl, f)
  entry_next q name r f false = inl refl

  here : (name : Option Ask) → is_elsewhere g name ≡ false → is_follower g ≡ false
  here None h = ap (λ b. b && not (is_some (next_position g))) h
  here (Some a) h = h

  decided_next : (q : Request) (name : Option Ask) → AddsNext g (decided_added g q name)
  decided_next q name = by (is_elsewhere g name) refl
    where
      by : (b : Bool) → is_elsewhere g name ≡ b → AddsNext g (cond b [] (entries_of (next_position g) q name (carried_reply g q)))
      by true e = inl refl
      by false e = entry_next q name (carried_reply g q) (here name e) _

  verdict_next : (q : Request) (a : Ask) (v : Verdict) → AddsNext g (verdict_added g q a v)
  verdict_next q a carry = decided_next q (Some a)
  verdict_next q a (again answer) = inl refl
  verdict_next q a another = inl refl
  verdict_next q a late = inl refl
  verdict_next q a foreign = inl refl
  verdict_next q a ahead = inl refl
  verdict_next q a over = inl refl

  shared_next : (c : Client) (q : Request) (claim : Option Claim) → AddsNext g (shared_added g c q claim)
  shared_next c q None = decided_next q None
  shared_next c q (Some k) = let a = asked_by c q.line k in verdict_next q a (verdict (names_of g) a)

  act_next : (c : Client) (text : List ℕ) (act : Act) → AddsNext g (act_added g c text act)
  act_next c text (begin role) = inl refl
  act_next c text finish = inl refl
  act_next c text (subscribe rel) = inl refl
  act_next c text (unsubscribe own) = inl refl
  act_next c text (create_role name) = shared_next c (request_of c text (create_role name)) (claim_said text)
  act_next c text (create_table name owner columns) = shared_next c (request_of c text (create_table name owner columns)) (claim_said text)
  act_next c text (create_view name owner query) = shared_next c (request_of c text (create_view name owner query)) (claim_said text)
  act_next c text (grant rel privileges to) = shared_next c (request_of c text (grant rel privileges to)) (claim_said text)
  act_next c text (revoke rel privileges to) = shared_next c (request_of c text (revoke rel privileges to)) (claim_said text)
  act_next c text (grant_role group to) = shared_next c (request_of c text (grant_role group to)) (claim_said text)
  act_next c text (revoke_role group to) = shared_next c (request_of c text (revoke_role group to)) (claim_said text)
  act_next c text (row_security rel enable force) = shared_next c (request_of c text (row_security rel enable force)) (claim_said text)
  act_next c text (create_policy p) = shared_next c (request_of c text (create_policy p)) (claim_said text)
  act_next c text (drop_policy rel name) = shared_next c (request_of c text (drop_policy rel name)) (claim_said text)
  act_next c text (write entries) = shared_next c (request_of c text (write entries)) (claim_said text)

  said_next : (c : Client) (text : List ℕ) (s : Message) → AddsNext g (said_added g c text s)
  said_next c text no_json = inl refl
  said_next c text too_long = inl refl
  said_next c text no_object = inl refl
  said_next c text (no_request id why) = inl refl
  said_next c text (request id act) = by (may_have (claim_said text) act)
    where
      by : (b : Bool) → AddsNext g (cond b (act_added g c text act) [])
      by true = act_next c text act
      by false = inl refl

-- what is behind the entries that were there
behind_next : (g : Gate) (more es : List Entry) → es ≡ g.entries ++ more → AddsNext g more → AddsNext g (drop (length g.entries) es)
behind_next g more es e a = subst (AddsNext g) (sym (ap (drop (length g.entries)) e ∙ drop-append_front g.entries more)) a

message_adds : (g : Gate) (m : ℕ) (text : List ℕ) → AddsNext g (drop (length g.entries) (said g m text).entries)
message_adds g m text = by (client_at g.clients m)
  where
    heard : (c : Client) (t : Bool) → AddsNext g (drop (length g.entries) (cond t (hears g m c text) g).entries)
    heard c false = behind_next g [] g.entries (sym (append-nil g.entries)) (inl refl)
    heard c true =
        let i = asked g m text in
        behind_next g (said_added i c text (said_by text)) (hears g m c text).entries (entries-done_for i m c text (said_by text)) (said_next i c text (said_by text))

    by : (o : Option Client) → AddsNext g (drop (length g.entries) (if_some o g (λ c. cond (may_say c) (hears g m c text) g)).entries)
    by None = behind_next g [] g.entries (sym (append-nil g.entries)) (inl refl)
    by (Some c) = heard c (may_say c)

pub AddsNext-message : (g : Gate) (m : ℕ) (text : List ℕ) → AddsNext g (added_by g (message m text))
AddsNext-message g m text = by g.dead
  where
    by : (b : Bool) → AddsNext g (drop (length g.entries) (cond b g (said g m text)).entries)
    by true = behind_next g [] g.entries (sym (append-nil g.entries)) (inl refl)
    by false = message_adds g m text

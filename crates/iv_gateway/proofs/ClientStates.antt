-- What the code has of clients stands for the clients, whatever is done to both.
use Rattle.std.proofs.Common.{◌≡◌, ℕ, Bool, true, false, cond, List, [], ◌∷◌, ◌++◌, map, Option, Some, None, option_map, refl, ap, ◌∙◌, sym, append-nil}
use Rattle.iv_access.specs.Rights.{Name}
use Rattle.iv_machine.specs.Act.{Line}
use Rattle.iv_message.specs.Told.{Told, granted, settled, told_text}
use Rattle.iv_clients.specs.Clients.{Client, Slots, at_all, at_client, own_lines, settling, staying, telling, told_one}
use Rattle.iv_clients.specs.Feeds.{Feed}
use Rattle.iv_records.specs.Journal.{Entry}
use Rattle.iv_clients.specs.Kept.{Places, holding, holding_all, holding_owed, keeping_on, kept, kept_slots}
use Rattle.iv_hall.specs.Hearing.{hearing_lines}
use Rattle.iv_notices.proofs.ClientChanges.{at_all-kept_slots, at_client-kept_slots, kept-told_one, kept-settling, kept-telling}

pub at_client-told_one : (es : List Entry) (slots : Slots) (places : Places) (m : ℕ) (t : Told) (text : List ℕ) → told_text t ≡ text → places ≡ kept_slots slots
    → at_client m (holding text) places ≡ kept_slots (at_client m (told_one es t) slots)
at_client-told_one es slots places m t text e b =
    ap (λ z. at_client m (holding z) places) (sym e) ∙ (ap (at_client m (holding (told_text t))) b
    ∙ at_client-kept_slots m (told_one es t) (holding (told_text t)) (kept-told_one es t) slots)

pub at_all-settling : (es : List Entry) (slots : Slots) (places : Places) (text : List ℕ) → text ≡ told_text settled → places ≡ kept_slots slots
    → at_all (holding_owed text) places ≡ kept_slots (at_all (settling es) slots)
at_all-settling es slots places text e b =
    ap (λ z. at_all (holding_owed z) places) e ∙ (ap (at_all (holding_owed (told_text settled))) b
    ∙ at_all-kept_slots (settling es) (holding_owed (told_text settled)) (kept-settling es) slots)

-- ---- lines

twice_slot : {C D E : Type 0} (f : D → E) (h : C → D) (o : Option C) → option_map f (option_map h o) ≡ option_map (λ c. f (h c)) o
twice_slot f h None = refl
twice_slot f h (Some c) = refl

twice : (f h : Client → Client) (slots : Slots) → at_all f (at_all h slots) ≡ at_all (λ c. f (h c)) slots
twice f h [] = refl
twice f h (o ∷ os) = λ i. twice_slot f h o i ∷ twice f h os i

pub cond-no_grants : (b : Bool) (names : List Name) → names ≡ [] → cond b (map granted names) [] ≡ []
cond-no_grants true names e = ap (map granted) e
cond-no_grants false names e = refl

pub kept_slots-heard : (es : List Entry) (feeds : List Feed) (ls : List Line) (more : Client → List Told) → ((c : Client) → more c ≡ [])
    → (slots : Slots) (places : Places) → places ≡ kept_slots slots
    → at_all (keeping_on ls) (at_all (hearing_lines feeds ls) places) ≡ kept_slots
    (at_all (λ c. staying ls (telling es (own_lines feeds ls c.subs ++ more c) c)) slots)
kept_slots-heard es feeds ls more none slots places b =
    ap (λ z. at_all (keeping_on ls) (at_all (hearing_lines feeds ls) z)) b
    ∙ (ap (at_all (keeping_on ls)) (at_all-kept_slots tells_all (hearing_lines feeds ls) one slots)
    ∙ (at_all-kept_slots (staying ls) (keeping_on ls) (λ c. refl) (at_all tells_all slots) ∙ ap kept_slots (twice (staying ls) tells_all slots)))
  where
    tells_all : Client → Client
    tells_all c = telling es (own_lines feeds ls c.subs ++ more c) c

    one : (c : Client) → kept (tells_all c) ≡ hearing_lines feeds ls (kept c)
    one c = kept-telling es (own_lines feeds ls c.subs ++ more c) c
        ∙ ap (λ z. holding_all z (kept c)) (ap (λ z. own_lines feeds ls c.subs ++ z) (none c) ∙ append-nil (own_lines feeds ls c.subs))

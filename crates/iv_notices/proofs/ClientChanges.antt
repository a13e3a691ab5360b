-- The code changes what it keeps of a client as the client changes.
use Rattle.std.proofs.Common.{◌≡◌, ℕ, zero, suc, Bool, true, false, cond, ◌+◌, ◌||◌, not, List, [], ◌∷◌, ◌++◌, length, drop, map, set, replicate, Option, Some}
use Rattle.std.proofs.Common.{None, option_map, refl, ap, ◌∙◌, sym, append-nil, arith, length-append}
use Rattle.std.specs.Prelude.{◌==◌, bytes_eq}
use Rattle.std.specs.List.{list_any}
use Rattle.std.proofs.lemmas.Bool.{ne_eqb}
use Rattle.std.proofs.lemmas.List.Concat.{flat_map-append}
use Rattle.iv_rows.specs.Options.{if_some}
use Rattle.iv_access.specs.Rights.{Name}
use Rattle.iv_message.specs.Lines.{IsLine}
use Rattle.iv_message.specs.Told.{Told, alive, settled, told_text}
use Rattle.iv_clients.specs.Clients.{Client, Shown, Slots, answered, at_all, at_client, beating, by_others, checked, client_at, dropping, handing, has_role}
use Rattle.iv_clients.specs.Clients.{is_followed, is_free, is_slow, opens, released, settling, telling, text_shown, told_one}
use Rattle.iv_records.specs.Journal.{Entry}
use Rattle.iv_clients.specs.Kept.{Kept, Places, answering, checking, emptied, has_role_in, holding, holding_all, holding_beat, holding_owed, is_followed_by}
use Rattle.iv_clients.specs.Kept.{is_following, is_told, kept, kept_slots, letting_go, releasing}
use Rattle.iv_clients.specs.Tokens.{Token}

one_text : (ss : List Shown) (s : Shown) → text_shown (ss ++ s ∷ []) ≡ text_shown ss ++ told_text s.told
one_text ss s = flat_map-append (λ (x : Shown). told_text x.told) ss (s ∷ []) ∙ ap (λ z. text_shown ss ++ z) (append-nil (told_text s.told))

-- what others brought of two parts
others_append : (ss ts : List Shown) → by_others (ss ++ ts) ≡ by_others ss ++ by_others ts
others_append [] ts = refl
others_append (s ∷ ss) ts = by s.answers (others_append ss ts)
  where
    by : (b : Bool) → by_others (ss ++ ts) ≡ by_others ss ++ by_others ts
        → cond (not b) (s ∷ by_others (ss ++ ts)) (by_others (ss ++ ts)) ≡ cond (not b) (s ∷ by_others ss) (by_others ss) ++ by_others ts
    by true e = e
    by false e = ap (λ z. s ∷ z) e

others_count : (ss ts : List Shown) → length (text_shown (by_others (ss ++ ts))) ≡ length (text_shown (by_others ss)) + length (text_shown (by_others ts))
others_count ss ts = ap (λ z. length (text_shown z)) (others_append ss ts)
    ∙ (ap length (flat_map-append (λ (x : Shown). told_text x.told) (by_others ss) (by_others ts))
    ∙ length-append (text_shown (by_others ss)) (text_shown (by_others ts)))

-- ---- a client

-- something that others bring
brought_one : (es : List Entry) (t : Told) (ss : List Shown)
    → length (text_shown (by_others (ss ++ record { told = t; entries = es; answers = false } ∷ []))) ≡ length (text_shown (by_others ss)) + length
    (told_text t)
brought_one es t ss = others_count ss (record { told = t; entries = es; answers = false } ∷ [])
    ∙ ap (λ z. length (text_shown (by_others ss)) + length z) (append-nil (told_text t))

pub kept-told_one : (es : List Entry) (t : Told) (c : Client) → kept (told_one es t c) ≡ holding (told_text t) (kept c)
kept-told_one es t c i = record (holding (told_text t) (kept c)) {
  unsynced = one_text c.unsynced (record { told = t; entries = es; answers = false }) i;
  brought =
      brought_one es t c.unsynced i;
}

-- one thing after another
pub kept-telling : (es : List Entry) (ts : List Told) (c : Client) → kept (telling es ts c) ≡ holding_all ts (kept c)
kept-telling es [] c = refl
kept-telling es (t ∷ ts) c = kept-telling es ts (told_one es t c) ∙ ap (holding_all ts) (kept-told_one es t c)

owed_by : (b : Bool) (es : List Entry) (c : Client) → kept (cond b (record (told_one es settled c) { owed = false }) c) ≡ cond b
    (record (holding (told_text settled) (kept c)) { owed = false }) (kept c)
owed_by true es c = ap (λ (k : Kept). record k { owed = false }) (kept-told_one es settled c)
owed_by false es c = refl

pub kept-settling : (es : List Entry) (c : Client) → kept (settling es c) ≡ holding_owed (told_text settled) (kept c)
kept-settling es c = owed_by c.owed es c

pub kept-beating : (es : List Entry) (c : Client) → kept (beating es c) ≡ holding_beat (told_text alive) (kept c)
kept-beating es c = ap (λ (k : Kept). record k { owed = c.owed }) (kept-told_one es alive c)

slow_by : (b : Bool) (c : Client) → kept (cond b (dropping c) (record c { unsynced = []; sendable = c.sendable ++ c.unsynced }))
    ≡ cond b (letting_go (kept c)) (record (kept c) {
      unsynced = [];
      sendable = text_shown c.sendable ++ text_shown c.unsynced;
      brought = 0;
      piled =
          (kept c).piled + (kept c).brought;
    })
slow_by true c = refl
slow_by false c = λ i. record (kept c) {
  unsynced = [];
  sendable = flat_map-append (λ (x : Shown). told_text x.told) c.sendable c.unsynced i;
  brought =
      0;
  piled = others_count c.sendable c.unsynced i;
}

pub kept-released : (c : Client) → kept (released c) ≡ releasing (kept c)
kept-released c = slow_by (c.dropped || is_slow c) c

checked_by : (b : Bool) (c : Client) → kept (cond b c (dropping c)) ≡ cond b (kept c) (letting_go (kept c))
checked_by true c = refl
checked_by false c = refl

pub kept-checked : (tokens : List Token) (c : Client) → kept (checked tokens c) ≡ checking tokens (kept c)
kept-checked tokens c = checked_by (opens tokens c) c

drop_front : (xs ys : List Shown) → drop (length xs) (xs ++ ys) ≡ ys
drop_front [] ys = refl
drop_front (x ∷ xs) ys = drop_front xs ys

-- what it was told since it was b comes of its own message: of what it was told before nothing is missing
pub kept-answered : (b c : Client) (more : List Shown) → c.unsynced ≡ b.unsynced ++ more → kept (answered b c) ≡ answering (kept b).brought (kept c)
kept-answered b c more e i = record (kept c) { unsynced = text i; brought = count i }
  where
    mark : Shown → Shown
    mark s = record s { answers = true }

    behind : drop (length b.unsynced) c.unsynced ≡ more
    behind = ap (drop (length b.unsynced)) e ∙ drop_front b.unsynced more

    same_text : (ss : List Shown) → text_shown (map mark ss) ≡ text_shown ss
    same_text [] = refl
    same_text (s ∷ ss) = ap (λ z. told_text s.told ++ z) (same_text ss)

    of_none : (ss : List Shown) → by_others (map mark ss) ≡ []
    of_none [] = refl
    of_none (s ∷ ss) = of_none ss

    split : (ss ts : List Shown) → text_shown (ss ++ ts) ≡ text_shown ss ++ text_shown ts
    split ss ts = flat_map-append (λ (x : Shown). told_text x.told) ss ts

    text : text_shown (b.unsynced ++ map mark (drop (length b.unsynced) c.unsynced)) ≡ text_shown c.unsynced
    text = ap (λ z. text_shown (b.unsynced ++ map mark z)) behind
        ∙ (split b.unsynced (map mark more) ∙ (ap (λ z. text_shown b.unsynced ++ z) (same_text more) ∙ (sym (split b.unsynced more) ∙ ap text_shown (sym e))))

    count : length (text_shown (by_others (b.unsynced ++ map mark (drop (length b.unsynced) c.unsynced)))) ≡ length (text_shown (by_others b.unsynced))
    count = others_count b.unsynced (map mark (drop (length b.unsynced) c.unsynced))
        ∙ (ap (λ z. length (text_shown (by_others b.unsynced)) + length (text_shown z)) (of_none (drop (length b.unsynced) c.unsynced))
        ∙ (let f : length (text_shown (by_others b.unsynced)) + 0 ≡ length (text_shown (by_others b.unsynced)) = omega arith in f))

suc_not : (n : ℕ) → (suc n == 0) ≡ false
suc_not n = ne_eqb (suc n) 0 (λ e. let no : ⊥ = omega (arith, e) in no)

-- a text is not empty, so what is handed is nothing in both
pub length-told_text : (t : Told) (rest : List ℕ) → IsLine (told_text t) → (length (told_text t ++ rest) == 0) ≡ false
length-told_text t rest l = ap (λ z. length (z ++ rest) == 0) l.1 ∙ by l.0
  where
    by : (front : List ℕ) → (length ((front ++ 10 ∷ []) ++ rest) == 0) ≡ false
    by [] = suc_not (length rest)
    by (x ∷ xs) = suc_not (length ((xs ++ 10 ∷ []) ++ rest))

handing_by : ((t : Told) → IsLine (told_text t)) → (c : Client) (ss : List Shown)
    → kept (cond (length ss == 0) (record c { sendable = ss }) (record c { sendable = []; asked = 0; handed = c.handed ++ ss ∷ [] }))
    ≡ cond (length (text_shown ss) == 0) (record (kept c) { sendable = text_shown ss; piled = length (text_shown (by_others ss)) })
    (record (kept c) { sendable = []; asked = 0; piled = 0 })
handing_by law c [] = refl
handing_by law c (s ∷ ss) =
    ap (λ b. kept (cond b (record c { sendable = s ∷ ss }) (record c { sendable = []; asked = 0; handed = c.handed ++ (s ∷ ss) ∷ [] }))) (suc_not (length ss))
    ∙ ap (λ b. cond b (record (kept c) { sendable = text_shown (s ∷ ss); piled = length (text_shown (by_others (s ∷ ss))) })
    (record (kept c) { sendable = []; asked = 0; piled = 0 }))
    (sym (length-told_text s.told (text_shown ss) (law s.told)))

pub kept-handing : ((t : Told) → IsLine (told_text t)) → (c : Client) → kept (handing c) ≡ emptied (kept c)
kept-handing law c = handing_by law c c.sendable

sent_kept : (o : Option Client) → if_some (option_map kept o) [] (λ (k : Kept). k.sendable) ≡ if_some o [] (λ (c : Client). text_shown c.sendable)
sent_kept None = refl
sent_kept (Some c) = refl

-- ---- slots

kept_map : (f : Client → Client) (h : Kept → Kept) → ((c : Client) → kept (f c) ≡ h (kept c)) → (o : Option Client)
    → option_map h (option_map kept o) ≡ option_map kept (option_map f o)
kept_map f h k None = refl
kept_map f h k (Some c) = ap Some (sym (k c))

pub at_client-kept_slots : (m : ℕ) (f : Client → Client) (h : Kept → Kept) → ((c : Client) → kept (f c) ≡ h (kept c)) → (slots : Slots)
    → at_client m h (kept_slots slots) ≡ kept_slots (at_client m f slots)
at_client-kept_slots m f h k [] = refl
at_client-kept_slots zero f h k (s ∷ ss) = ap (λ z. z ∷ kept_slots ss) (kept_map f h k s)
at_client-kept_slots (suc m) f h k (s ∷ ss) = ap (λ z. option_map kept s ∷ z) (at_client-kept_slots m f h k ss)

pub at_all-kept_slots : (f : Client → Client) (h : Kept → Kept) → ((c : Client) → kept (f c) ≡ h (kept c)) → (slots : Slots)
    → at_all h (kept_slots slots) ≡ kept_slots (at_all f slots)
at_all-kept_slots f h k [] = refl
at_all-kept_slots f h k (s ∷ ss) = (λ i. kept_map f h k s i ∷ at_all-kept_slots f h k ss i)

pub set-kept_slots : (m : ℕ) (x : Option Client) (slots : Slots) → set (kept_slots slots) m (option_map kept x) ≡ kept_slots (set slots m x)
set-kept_slots m x [] = refl
set-kept_slots zero x (s ∷ ss) = refl
set-kept_slots (suc m) x (s ∷ ss) = ap (λ z. option_map kept s ∷ z) (set-kept_slots m x ss)

pub if_some-is_told : (o : Option Client) → if_some (option_map kept o) false is_told ≡ if_some o false (λ c. is_told (kept c))
if_some-is_told None = refl
if_some-is_told (Some c) = refl

pub client_at-kept_slots : (slots : Slots) (m : ℕ) → client_at (kept_slots slots) m ≡ option_map kept (client_at slots m)
client_at-kept_slots [] m = refl
client_at-kept_slots (s ∷ ss) zero = refl
client_at-kept_slots (s ∷ ss) (suc m) = client_at-kept_slots ss m

follows_kept : (k : ℕ) (o : Option Client) → if_some (option_map kept o) false (is_following k) ≡ if_some o false
    (λ (c : Client). list_any (λ s. k == s.feed) c.subs)
follows_kept k None = refl
follows_kept k (Some c) = refl

pub is_followed_by-kept_slots : (k : ℕ) (slots : Slots) → is_followed_by k (kept_slots slots) ≡ is_followed k slots
is_followed_by-kept_slots k [] = refl
is_followed_by-kept_slots k (s ∷ ss) = (λ i. follows_kept k s i || is_followed_by-kept_slots k ss i)

role_kept : (role : Name) (o : Option Client) → if_some (option_map kept o) false (λ (x : Kept). bytes_eq x.role role) ≡ if_some o false
    (λ (c : Client). bytes_eq c.role role)
role_kept role None = refl
role_kept role (Some c) = refl

pub has_role_in-kept_slots : (role : Name) (slots : Slots) → has_role_in role (kept_slots slots) ≡ has_role role slots
has_role_in-kept_slots role [] = refl
has_role_in-kept_slots role (s ∷ ss) = (λ i. role_kept role s i || has_role_in-kept_slots role ss i)

free_kept : (o : Option Client) → if_some (option_map kept o) true (λ c. false) ≡ if_some o true (λ c. false)
free_kept None = refl
free_kept (Some c) = refl

pub is_free-kept_slots : (m : ℕ) (slots : Slots) → is_free m (kept_slots slots) ≡ is_free m slots
is_free-kept_slots m [] = refl
is_free-kept_slots zero (s ∷ ss) = free_kept s
is_free-kept_slots (suc m) (s ∷ ss) = is_free-kept_slots m ss

pub kept_slots-replicate : (n : ℕ) → replicate n None ≡ kept_slots (replicate n None)
kept_slots-replicate zero = refl
kept_slots-replicate (suc n) = ap (λ z. None ∷ z) (kept_slots-replicate n)

pub sendable-kept_slots : (places : Places) (slots : Slots) (m : ℕ) → places ≡ kept_slots slots
    → if_some (client_at places m) [] (λ (k : Kept). k.sendable) ≡ if_some (client_at slots m) [] (λ (c : Client). text_shown c.sendable)
sendable-kept_slots places slots m b =
    ap (λ z. if_some z [] (λ (k : Kept). k.sendable)) (ap (λ z. client_at z m) b ∙ client_at-kept_slots slots m) ∙ sent_kept (client_at slots m)

-- What is handed on and judged, as what is known goes on from one step to the next.
use Rattle.std.proofs.Common.{◌≡◌, inl, inr, ℕ, Bool, true, false, cond, List, Some, None, option_map, Result, Ok, Err, refl, ap, ◌∙◌, sym, subst}
use Rattle.std.specs.Prelude.{◌++◌, ◌%◌, ◌==◌, ◌&&◌, if◌then◌else◌, filter, not, nat_lt, IfOk, OnOk}
use Rattle.sha2.specs.Sha256.{sha256}
use Rattle.iv_clients.specs.Tokens.{Token}
use Rattle.iv_jwt.specs.Tokens.{Granted, judged}
use Rattle.iv_jwt.specs.declared.tokens.Fault.{Fault}
use Rattle.iv_tokens.specs.declared.web.Judged.{Judged}
use Rattle.iv_tokens.specs.declared.web.Judged.TheVariants as answer
use Rattle.iv_tokens.specs.Entries.{Entry, valid_at}
use Rattle.iv_running.specs.declared.fault.Fault.{Fault as Ends}
use Rattle.iv_tokens.specs.Web.{Known, Web, answer_by, answer_of, answer_to, handed_on, is_among, is_full, kept, known_at, told, web_at, web_of}
use Rattle.iv_desk.specs.declared.desk.Desk.{Desk}
use Rattle.iv_host.specs.declared.admins.Admins.{Admins}
use Rattle.iv_admission.specs.declared.admission.Admission.{Admission}
use Rattle.iv_admission.specs.ByToken.{are_by}
use Rattle.iv_admission.specs.Admitting.{HasAdmins, IsHanded, IsLater, IsSameBut, IsToldOf, answer_beside, answer_for, beside, in_use, is_beyond, is_in_use, tokens_of, web_after, web_on, with_granted}

none_some : {X : Type 0} (a : X) → None ≡ Some a → ⊥
none_some a h = cc h

pub not_handed : (k : Known) (ts : List Token) → k.handed ≡ None → handed_on k ≡ Some ts → ⊥
not_handed k ts e h = none_some ts (sym (ap (option_map (λ now. known_at now k)) e) ∙ h)

-- the same tokens are known
pub known_same : (a b : Known) (s t : ℕ) → a.entries ≡ b.entries → a.web ≡ b.web → s ≡ t → known_at s a ≡ known_at t b
known_same a b s t e w n = λ i. valid_at (n i) (e i) ++ web_at (n i) (w i)

-- a web token is in use by the second and by who is there
pub in_use_same : (a b : Admission) → b.second ≡ a.second → b.by_token ≡ a.by_token → (w : Web) → is_in_use b w ≡ is_in_use a w
in_use_same a b e f w = λ i. nat_lt (e i) w.until && nat_lt 0 (are_by (f i).counts w.token.digest)

-- of what is later, and was not handed on or is the same
pub IsHanded-later : (old new : Known) (ts : List Token) (x y : Desk) → IsLater old new → IsHanded new ts x y → IsHanded old ts x y
IsHanded-later old new ts x y later (inl told) = inl told
IsHanded-later old new ts x y (inl e) (inr w) = absurd (not_handed new ts e w.1)
IsHanded-later old new ts x y (inr e) (inr w) = inr (w.0, ap handed_on (sym e) ∙ w.1)

-- what was not handed on is told
pub IsToldOf-IsHanded : (k : Known) (ts : List Token) (x y : Desk) → k.handed ≡ None → IsHanded k ts x y → IsToldOf ts x y
IsToldOf-IsHanded k ts x y e (inl told) = told
IsToldOf-IsHanded k ts x y e (inr w) = absurd (not_handed k ts e w.1)

-- one step later, and one more
pub later_still : (a b c : Known) → IsLater a b → IsLater b c → IsLater a c
later_still a b c h (inl e) = inl e
later_still a b c (inl e) (inr f) = inl (ap (λ (k : Known). k.handed) f ∙ e)
later_still a b c (inr e) (inr f) = inr (f ∙ e)

-- the tokens of administrators stay
pub HasAdmins-later : (a b : Admission) → IsLater a.known b.known → b.admins ≡ a.admins → HasAdmins a → HasAdmins b
HasAdmins-later a b (inl e) same has = λ ts h. absurd (not_handed b.known ts e h)
HasAdmins-later a b (inr e) same has = λ ts h. ap (λ (z : Admins). z.tokens.items) same ∙ has ts (ap handed_on (sym e) ∙ h)

-- ---- a text that is judged

pub kept_later : (r : Result Web Judged) (k : Known) → IsLater k (kept r k)
kept_later (Ok w) k = inl refl
kept_later (Err why) k = inr refl

pub kept_web : (r : Result Web Judged) (k : Known) → (kept r k).web ≡ with_granted r k.web
kept_web (Ok w) k = refl
kept_web (Err why) k = refl

pub kept_same : (r : Result Web Judged) (k : Known) → ((kept r k).entries ≡ k.entries) × ((kept r k).secret ≡ k.secret)
kept_same (Ok w) k = (refl, refl)
kept_same (Err why) k = (refl, refl)

-- nothing is kept of one that is not granted
pub kept_beyond : (r : Result Web Judged) (k : Known) → told r ≡ answer.Full → kept r k ≡ k
kept_beyond (Ok w) k h = cc h
kept_beyond (Err why) k h = refl

no_longer : (w : Result Web Judged) (k : Known) → told w ≡ answer.Granted → ((why : Judged) → w ≡ Err why → why ≡ answer.Granted → ⊥) → (kept w k).handed ≡ None
no_longer (Ok w) k h not = refl
no_longer (Err why) k h not = absurd (not why refl h)

err_of : (a b : Judged) → ◌≡◌ {A = Result Web Judged} (Err a) (Err b) → a ≡ b
err_of a b h = cc h

ok_err : (w : Web) (b : Judged) → ◌≡◌ {A = Result Web Judged} (Ok w) (Err b) → ⊥
ok_err w b h = cc h

refused_granted : (why : Fault) → answer.Refused why ≡ answer.Granted → ⊥
refused_granted why h = cc h

full_granted : answer.Full ≡ answer.Granted → ⊥
full_granted h = cc h

known_granted : answer.Known ≡ answer.Granted → ⊥
known_granted h = cc h

never_granted : (es : List Entry) (secret : List ℕ) (ws : List Web) (now : ℕ) (text : List ℕ) (why : Judged) → answer_to es secret ws now text ≡ Err why → why ≡ answer.Granted → ⊥
never_granted es secret ws now text why h g = by (is_among (sha256 text) es ws) h
  where
    full : (c : Granted) (b : Bool) → cond b (Err answer.Full) (Ok (web_of now (sha256 text) c)) ≡ Err why → ⊥
    full c true e = full_granted (err_of _ why e ∙ g)
    full c false e = ok_err _ why e

    of : (r : Result Granted Fault) → answer_of ws now (sha256 text) r ≡ Err why → ⊥
    of (Err f) e = refused_granted f (err_of _ why e ∙ g)
    of (Ok c) e = full c (is_full c.subject ws) e

    by : (b : Bool) → cond b (Err answer.Known) (answer_of ws now (sha256 text) (judged secret now text)) ≡ Err why → ⊥
    by true e = known_granted (err_of _ why e ∙ g)
    by false e = of (judged secret now text) e

-- ---- a text that is judged once more

full_of : (j : Judged) → is_beyond j ≡ true → j ≡ answer.Full
full_of answer.Full h = refl
full_of answer.Known h = cc
full_of answer.Granted h = cc
full_of (answer.Refused why) h = cc

both : (a b : Bool) → (a && b) ≡ true → (a ≡ true) × (b ≡ true)
both true true h = (refl, refl)
both true false h = cc
both false b h = cc

-- what is known, changed
abbrev pub with_known : Known → Admission → Admission
with_known k a = record a { known = k }

-- nothing was kept of it, and it is judged beside those in use
pub again_same : (a : Admission) (text : List ℕ) (k : Known) (j : Judged) → j ≡ told (answer_by a.known a.second text) → k ≡ kept (answer_by a.known a.second text) a.known
    → (is_beyond j && not a.looked) ≡ true → (with_known k a ≡ a) × (beside a text ≡ in_use a)
again_same a text k j is e t =
    let full : told (answer_by a.known a.second text) ≡ answer.Full = sym is ∙ full_of j (both (is_beyond j) (not a.looked) t).0 in (
      ap (λ (z : Known). with_known z a) (e ∙ kept_beyond (answer_by a.known a.second text) a.known full),
      ap (λ (b : Bool). cond b (in_use a) a.known.web) (ap (λ (z : Judged). is_beyond z && not a.looked) (sym is) ∙ t),
    )

pub again_judged : (a m : Admission) (text : List ℕ) (r : Result Judged Ends) → m ≡ a → beside a text ≡ in_use a
    → IfOk r (λ j. j ≡ told (answer_beside (in_use m) m text)) → IfOk r (λ j. j ≡ told (answer_for a text))
again_judged a m text (Ok j) e b h =
    h ∙ (ap (λ (z : Admission). told (answer_beside (in_use z) z text)) e ∙ ap (λ (ws : List Web). told (answer_beside ws a text)) (sym b))
again_judged a m text (Err why) e b h = tt

pub again_web : (a m n : Admission) (text : List ℕ) (r : Result Judged Ends) → m ≡ a → beside a text ≡ in_use a
    → OnOk r (n.known.web ≡ with_granted (answer_beside (in_use m) m text) (in_use m)) → OnOk r (n.known.web ≡ web_after a text)
again_web a m n text (Ok j) e b h =
    h ∙ (ap (λ (z : Admission). with_granted (answer_beside (in_use z) z text) (in_use z)) e
    ∙ ap (λ (ws : List Web). with_granted (answer_beside ws a text) ws) (sym b))
again_web a m n text (Err why) e b h = tt

-- a text that is granted is to be handed on
pub kept_granted : (es : List Entry) (secret : List ℕ) (ws : List Web) (now : ℕ) (text : List ℕ) (k : Known) → told (answer_to es secret ws now text) ≡ answer.Granted
    → (kept (answer_to es secret ws now text) k).handed ≡ None
kept_granted es secret ws now text k h = no_longer (answer_to es secret ws now text) k h (never_granted es secret ws now text)

-- what is handed on at a step later
pub handed_later : {A : Type 0} (old mid new : Admission) (x y : Desk) (r : Result A Ends) → IsLater old.known mid.known → IsSameBut mid new × (new.known.web ≡ mid.known.web)
    → OnOk r (IsHanded mid.known (tokens_of mid) x y) → OnOk r (IsHanded old.known (tokens_of new) x y)
handed_later old mid new x y (Err why) later same h = tt
handed_later old mid new x y (Ok u) later same h =
    IsHanded-later old.known mid.known (tokens_of new) x y later
    (subst (λ (ts : List Token). IsHanded mid.known ts x y) (sym (known_same new.known mid.known new.second mid.second same.0.0 same.1 same.0.2)) h)

pub kept_after : {A : Type 0} (mid new : Admission) (r : Result A Ends) → IsSameBut mid new × (new.known.web ≡ mid.known.web) → OnOk r (handed_on new.known ≡ Some (tokens_of mid))
    → OnOk r (handed_on new.known ≡ Some (tokens_of new))
kept_after mid new (Err why) same h = tt
kept_after mid new (Ok u) same h = h ∙ ap Some (sym (known_same new.known mid.known new.second mid.second same.0.0 same.1 same.0.2))

-- and before that other entries may have been read
pub handed_read : {A : Type 0} (old mid new : Admission) (x y : Desk) (r : Result A Ends) → IsLater old.known mid.known
    → OnOk r (IsHanded mid.known (tokens_of new) x y) → OnOk r (IsHanded old.known (tokens_of new) x y)
handed_read old mid new x y (Err why) later h = tt
handed_read old mid new x y (Ok u) later h = IsHanded-later old.known mid.known (tokens_of new) x y later h

web_on_same : (old mid : Admission) (s t : ℕ) → mid.known.web ≡ old.known.web → mid.by_token ≡ old.by_token → s ≡ t → web_on mid s ≡ web_on old t
web_on_same old mid s t w b e = λ i.
    if e i % 10 == 0 then filter (λ (v : Web). nat_lt (e i) v.until && nat_lt 0 (are_by (b i).counts v.token.digest)) (w i) else w i

pub web_read : {A : Type 0} (old mid new : Admission) (s : ℕ) (r : Result A Ends) → mid.known.web ≡ old.known.web → mid.by_token ≡ old.by_token
    → OnOk r (new.known.web ≡ web_on mid s) → OnOk r (new.second ≡ s) → OnOk r (new.known.web ≡ web_on old new.second)
web_read old mid new s (Err why) w b h e = tt
web_read old mid new s (Ok u) w b h e = h ∙ web_on_same old mid s new.second w b (sym e)

-- the desk is told of these, or of those that are granted
pub told_handed : {A : Type 0} (k : Known) (us ts : List Token) (x y : Desk) (r : Result A Ends) → us ≡ ts → OnOk r (IsToldOf us x y) → OnOk r (IsHanded k ts x y)
told_handed k us ts x y (Err why) e h = tt
told_handed k us ts x y (Ok u) e h = inl (subst (λ (z : List Token). IsToldOf z x y) e h)

pub granted_told : (mid new : Admission) (x y : Desk) → mid.known.handed ≡ None → IsSameBut mid new × (new.known.web ≡ mid.known.web)
    → IsHanded mid.known (tokens_of mid) x y → IsToldOf (tokens_of new) x y
granted_told mid new x y e same h =
    subst (λ (z : List Token). IsToldOf z x y) (sym (known_same new.known mid.known new.second mid.second same.0.0 same.1 same.0.2))
    (IsToldOf-IsHanded mid.known (tokens_of mid) x y e h)

-- What administrators are told of the shape, as the code tells it.
use Rattle.std.proofs.Common.{◌≡◌, ◌∙◌, ℕ, Bool, true, false, cond, List, [], ◌∷◌, ◌++◌, length, map, refl, ap, sym, append-nil}
use Rattle.std.specs.Prelude.{◌==◌, flat_map}
use Rattle.std.proofs.lemmas.Bool.{false≢true}
use Rattle.std.proofs.lemmas.List.Concat.{flat_map-append}
use Rattle.iv_access.specs.Rights.{Name}
use Rattle.iv_message.specs.Lines.{IsLine}
use Rattle.iv_message.specs.Told.{Told, placed, settled, told_text, welcome}
use Rattle.iv_clients.specs.Clients.{Slots, at_all, by_others, fresh, greeting, telling, text_shown}
use Rattle.iv_records.specs.Journal.{Entry, shape_for, shape_of}
use Rattle.iv_clients.specs.Kept.{Kept, Places, coming, holding, holding_all, kept, kept_slots}
use Rattle.iv_clients.specs.Tokens.{Token}
use Rattle.iv_gate.specs.Gate.{Gate, informs, shape_text}
use Rattle.iv_gate.proofs.ShapeTexts.{told_itself}
use Rattle.iv_notices.specs.Granting.{holding_for}
use Rattle.iv_notices.specs.Shaping.{greeting_text, is_admin}
use Rattle.iv_notices.proofs.GrantTexts.{holding_all-holding, at_all-same, at_all-identity}
use Rattle.iv_notices.proofs.ClientChanges.{at_all-kept_slots, kept-telling, length-told_text}

-- ---- a client that comes in

itself_text : (es : List Entry) (ts : List Told) → text_shown (map (told_itself es) ts) ≡ flat_map told_text ts
itself_text es [] = refl
itself_text es (t ∷ ts) = ap (λ z. told_text t ++ z) (itself_text es ts)

itself_brought : (es : List Entry) (ts : List Told) → by_others (map (told_itself es) ts) ≡ []
itself_brought es [] = refl
itself_brought es (t ∷ ts) = itself_brought es ts

shape_for_text : (role : Name) (es : List Entry) → flat_map told_text (shape_for role es) ≡ cond (is_admin role) (shape_text es) []
shape_for_text role es = by (is_admin role)
  where
    by : (b : Bool) → flat_map told_text (cond b (shape_of es) []) ≡ cond b (flat_map told_text (shape_of es)) []
    by true = refl
    by false = refl

greeting_is : (es : List Entry) (role : Name) (at : List ℕ) → flat_map told_text (greeting es role at) ≡ greeting_text role at (shape_text es)
greeting_is es role at =
    ap (λ z. told_text (welcome role) ++ (told_text (placed at) ++ z))
    (flat_map-append told_text (shape_for role es) (settled ∷ []) ∙ (λ i. shape_for_text role es i ++ append-nil (told_text settled) i))

pub kept-fresh : (es : List Entry) (t : Token) (at : List ℕ) → kept (fresh es t at) ≡ coming t.role t.user t.digest (greeting_text t.role at (shape_text es))
kept-fresh es t at i = record (coming t.role t.user t.digest (greeting_text t.role at (shape_text es))) {
  unsynced = (itself_text es (greeting es t.role at) ∙ greeting_is es t.role at) i;
  brought = length (text_shown (itself_brought es (greeting es t.role at) i));
}

-- ---- one request

-- what it makes is told to those whose role it is for
one_told : (ts : List Told) (b : Bool) (t : Told) (k : Kept) → cond b (holding (flat_map told_text (t ∷ ts)) k) k ≡ holding_all (cond b (t ∷ ts) []) k
one_told ts true t k = sym (holding_all-holding ts (told_text t) k)
one_told ts false t k = refl

none_told : (b : Bool) (k : Kept) → k ≡ holding_all (cond b [] []) k
none_told true k = refl
none_told false k = refl

-- what entries tell a client of the shape
abbrev pub told_shape : List Entry → Kept → Kept
told_shape es k = holding_all (shape_for k.role es) k

some_shape : (ts : List Told) → (length (flat_map told_text ts) == 0) ≡ false → (b : Bool) (k : Kept)
    → cond b (holding (flat_map told_text ts) k) k ≡ holding_all (cond b ts []) k
some_shape [] h b k = absurd (false≢true (sym h))
some_shape (t ∷ ts) h b k = one_told ts b t k

empty_shape : ((t : Told) → IsLine (told_text t)) → (ts : List Told) → (length (flat_map told_text ts) == 0) ≡ true → (b : Bool) (k : Kept)
    → k ≡ holding_all (cond b ts []) k
empty_shape law [] h b k = none_told b k
empty_shape law (t ∷ ts) h b k = absurd (false≢true (sym (length-told_text t (flat_map told_text ts) (law t)) ∙ h))

pub at_all-told_shape : (es : List Entry) (places : Places) → (length (shape_text es) == 0) ≡ false
    → at_all (holding_for is_admin (shape_text es)) places ≡ at_all (told_shape es) places
at_all-told_shape es places h = at_all-same (holding_for is_admin (shape_text es)) (told_shape es) (λ k. some_shape (shape_of es) h (is_admin k.role) k) places

pub at_all-told_shape_empty : ((t : Told) → IsLine (told_text t)) → (es : List Entry) (places : Places) → (length (shape_text es) == 0) ≡ true
    → places ≡ at_all (told_shape es) places
at_all-told_shape_empty law es places h =
    at_all-identity places ∙ at_all-same (λ k. k) (told_shape es) (λ k. empty_shape law (shape_of es) h (is_admin k.role) k) places

pub stands_informed : (all es : List Entry) (slots : Slots) (places : Places) → places ≡ kept_slots slots
    → at_all (told_shape es) places ≡ kept_slots (at_all (λ c. telling all (shape_for c.role es) c) slots)
stands_informed all es slots places b =
    ap (at_all (told_shape es)) b ∙ at_all-kept_slots (λ c. telling all (shape_for c.role es) c) (told_shape es)
    (λ c. kept-telling all (shape_for c.role es) c) slots

pub kept_slots-informs : (g : Gate) (es : List Entry) (places now : Places) → places ≡ kept_slots g.clients → now ≡ at_all (told_shape es) places
    → now ≡ kept_slots (informs g es).clients
kept_slots-informs g es places now b n = n ∙ stands_informed g.entries es g.clients places b

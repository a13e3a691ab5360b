-- Whether a socket has presented its token, and what the code has of a socket behind a step.
use Rattle.std.proofs.Common.{◌≡◌, ℕ, Bool, true, false, cond, List, [], ◌∷◌, ◌++◌, drop, take, length, Option, Some, None, is_some, refl, ap, ◌∙◌, sym}
use Rattle.std.proofs.Common.{append-nil}
use Rattle.std.specs.Prelude.{nat_le, slice_get}
use Rattle.websocket.specs.Connection.{Connection}
use Rattle.iv_peer.specs.Socket.{Socket, answer, close_of, closed, ended, forget, is_open, passing, telling, told, told_text}
use Rattle.iv_peer.specs.Lives.{Carries, CarriesAt, Lives, texts_of}
use Rattle.iv_desk.specs.Front.{has_presented, told_some}

-- the law of a socket's life
abbrev pub AlwaysCarries : Type 0
AlwaysCarries = (hs ts : List (List ℕ)) (s : Socket) → Lives hs ts s → Carries hs ts s

heard_at : (hs ts : List (List ℕ)) (s : Socket) (k : Option Connection) → CarriesAt hs ts s k → hs ≡ texts_of s.effects
heard_at hs ts s None u = u.heard ∙ ap texts_of (sym u.effects)
heard_at hs ts s (Some conn) o = o.heard

pub texts_of-Lives : AlwaysCarries → (hs ts : List (List ℕ)) (s : Socket) → Lives hs ts s → hs ≡ texts_of s.effects
texts_of-Lives l hs ts s k = heard_at hs ts s s.protocol (l hs ts s k).carries

pub has_presented-Lives : AlwaysCarries → (hs ts : List (List ℕ)) (s : Socket) → Lives hs ts s → has_presented s ≡ is_some (slice_get hs 0)
has_presented-Lives l hs ts s k = ap (λ z. is_some (slice_get z 0)) (sym (texts_of-Lives l hs ts s k))

pub has_presented-no_text : AlwaysCarries → (hs ts us : List (List ℕ)) (s t : Socket) → Lives hs ts s → Lives (hs ++ []) us t
    → has_presented s ≡ has_presented t
has_presented-no_text l hs ts us s t k m =
    has_presented-Lives l hs ts s k ∙ (ap (λ z. is_some (slice_get z 0)) (sym (append-nil hs)) ∙ sym (has_presented-Lives l (hs ++ []) us t m))

some_first : (hs : List (List ℕ)) (text : List ℕ) → is_some (slice_get (hs ++ text ∷ []) 0) ≡ true
some_first [] text = refl
some_first (h ∷ hs) text = refl

pub has_presented-text : AlwaysCarries → (hs ts : List (List ℕ)) (text : List ℕ) (t : Socket) → Lives (hs ++ text ∷ []) ts t → has_presented t ≡ true
has_presented-text l hs ts text t m = has_presented-Lives l (hs ++ text ∷ []) ts t m ∙ some_first hs text

-- ---- a step by which nothing is heard

-- what the frames that were read do
abbrev pub SameEffects : (Socket → Socket) → Type 0
SameEffects f = (s : Socket) → (f s).effects ≡ s.effects

-- what the code has of it is of what the code has
abbrev pub Forgets : (Socket → Socket) → Type 0
Forgets f = (s : Socket) → forget (f (forget s)) ≡ forget (f s)

pub has_presented-SameEffects : (f : Socket → Socket) → SameEffects f → (s : Socket) → has_presented s ≡ has_presented (f s)
has_presented-SameEffects f e s = ap (λ z. is_some (slice_get (texts_of z) 0)) (sym (e s))

pub SameEffects-closed : (code : ℕ) (words : List ℕ) → SameEffects (closed code words)
SameEffects-closed code words s = by (is_open s)
  where
    by : (b : Bool) → (cond b (telling (answer (close_of code words)) (ended s)) (ended s)).effects ≡ s.effects
    by true = refl
    by false = refl

pub Forgets-closed : (code : ℕ) (words : List ℕ) → Forgets (closed code words)
Forgets-closed code words s = by (is_open s)
  where
    by : (b : Bool) → forget (cond b (telling (answer (close_of code words)) (ended (forget s))) (ended (forget s))) ≡ forget
        (cond b (telling (answer (close_of code words)) (ended s)) (ended s))
    by true = refl
    by false = refl

pub SameEffects-passing : (n : ℕ) → SameEffects (passing n)
SameEffects-passing n s = by (nat_le n (length s.output))
  where
    by : (b : Bool) → (cond b (record s { output = drop n s.output; sent = s.sent ++ take n s.output }) s).effects ≡ s.effects
    by true = refl
    by false = refl

pub Forgets-passing : (n : ℕ) → Forgets (passing n)
Forgets-passing n s = by (nat_le n (length s.output))
  where
    by : (b : Bool) → forget (cond b (record (forget s) { output = drop n s.output; sent = (forget s).sent ++ take n s.output }) (forget s))
        ≡ forget (cond b (record s { output = drop n s.output; sent = s.sent ++ take n s.output }) s)
    by true = refl
    by false = refl

text_effects : (bytes : List ℕ) → SameEffects (told_text bytes)
text_effects bytes s = by (is_open s)
  where
    by : (b : Bool) → (cond b (telling (told bytes) s) s).effects ≡ s.effects
    by true = refl
    by false = refl

text_forgets : (bytes : List ℕ) → Forgets (told_text bytes)
text_forgets bytes s = by (is_open s)
  where
    by : (b : Bool) → forget (cond b (telling (told bytes) (forget s)) (forget s)) ≡ forget (cond b (telling (told bytes) s) s)
    by true = refl
    by false = refl

pub SameEffects-told_some : (text : List ℕ) → SameEffects (told_some text)
SameEffects-told_some [] s = refl
SameEffects-told_some (b ∷ bs) s = text_effects (b ∷ bs) s

pub Forgets-told_some : (text : List ℕ) → Forgets (told_some text)
Forgets-told_some [] s = refl
Forgets-told_some (b ∷ bs) s = text_forgets (b ∷ bs) s

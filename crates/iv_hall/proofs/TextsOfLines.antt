-- What is told of lines, one after another.
use Rattle.std.proofs.Common.{◌≡◌, ◌<◌, ℕ, zero, suc, ◌+◌, true, false, cond, List, [], ◌∷◌, ◌++◌, length, take, Some, None, get_or, map, refl, ap, ◌∙◌, sym}
use Rattle.std.proofs.Common.{append-nil, add-one, arith, false, ◌||◌, ◌⊎◌, inl, inr}
use Rattle.std.specs.Prelude.{◌==◌, flat_map, slice_get}
use Rattle.std.specs.List.{list_any}
use Rattle.std.proofs.lemmas.Bool.{cases_Bool, false≢true}
use Rattle.std.proofs.lemmas.List.{map_more}
use Rattle.std.proofs.lemmas.List.Concat.{flat_map-append}
use Rattle.iv_access.specs.Rights.{Name}
use Rattle.iv_machine.specs.Act.{Line, reply, change, ended}
use Rattle.iv_message.specs.Told.{Told, told_text}
use Rattle.iv_clients.specs.Clients.{Sub, at_all, own_line}
use Rattle.iv_clients.specs.Feeds.{Feed, rel_read}
use Rattle.iv_clients.specs.Kept.{Kept, Places, holding, holding_all, is_following}
use Rattle.iv_hall.proofs.EachClient.{at_all-at_all, at_all-same, at_all-itself}
use Rattle.iv_hall.proofs.QuietClients.{FollowsAlike}
use Rattle.iv_hall.specs.Hearing.{feed_told, hearing_for, hearing_line, hearing_lines, text_as, told_as, told_for}

pub subs_kept : (ts : List Told) (k : Kept) → (holding_all ts k).subs ≡ k.subs
subs_kept [] k = refl
subs_kept (t ∷ ts) k = subs_kept ts (holding (told_text t) k)

given_kept : (ts : List Told) (k : Kept) → (holding_all ts k).given ≡ k.given
given_kept [] k = refl
given_kept (t ∷ ts) k = given_kept ts (holding (told_text t) k)

pub FollowsAlike-holding_all : (ts : List Told) (k : Kept) → FollowsAlike k (holding_all ts k)
FollowsAlike-holding_all ts k = record { given = given_kept ts k; subs = subs_kept ts k }

-- who is owed something stays so
pub owed-holding_all : (ts : List Told) (k : Kept) → k.owed ≡ true → (holding_all ts k).owed ≡ true
owed-holding_all [] k h = h
owed-holding_all (t ∷ ts) k h = owed-holding_all ts (holding (told_text t) k) refl

pub holding_all-append : (xs ys : List Told) (k : Kept) → holding_all (xs ++ ys) k ≡ holding_all ys (holding_all xs k)
holding_all-append [] ys k = refl
holding_all-append (x ∷ xs) ys k = holding_all-append xs ys (holding (told_text x) k)

-- ---- one number

line_held : (l : Line) (rel : Name) (own feed : ℕ) (k : Kept) → feed_told l ≡ Some feed → holding (text_as rel l own) k ≡ holding_all (told_as rel l own) k
line_held (reply n r) rel own feed k h = cc
line_held (change n j rows) rel own feed k h = refl
line_held (ended n j why rows) rel own feed k h = refl

pub told_here : (feed : ℕ) (rel : Name) (l : Line) (s : Sub) (k : Kept) → feed_told l ≡ Some feed → (feed == s.feed) ≡ true
    → holding (text_as rel l s.own) k ≡ holding_all (told_for feed rel l s) k
told_here feed rel l s k h e = line_held l rel s.own feed k h ∙ ap (λ b. holding_all (cond b (told_as rel l s.own) []) k) (sym e)

pub told_not : (feed : ℕ) (rel : Name) (l : Line) (s : Sub) (k : Kept) → (feed == s.feed) ≡ false → k ≡ holding_all (told_for feed rel l s) k
told_not feed rel l s k e = ap (λ b. holding_all (cond b (told_as rel l s.own) []) k) (sym e)

-- who follows a line's feed is owed something then
owed_by : (feed : ℕ) (rel : Name) (l : Line) (subs : List Sub) (k : Kept) → feed_told l ≡ Some feed → list_any (λ (s : Sub). feed == s.feed) subs ≡ true
    → (holding_all (flat_map (told_for feed rel l) subs) k).owed ≡ true
owed_by feed rel l [] k h any = absurd (false≢true any)
owed_by feed rel l (s ∷ ss) k h any = by (cases_Bool (feed == s.feed)) (λ more. owed_by feed rel l ss k h more)
  where
    parts : holding_all (flat_map (told_for feed rel l) (s ∷ ss)) k ≡ holding_all (flat_map (told_for feed rel l) ss) (holding_all (told_for feed rel l s) k)
    parts = holding_all-append (told_for feed rel l s) (flat_map (told_for feed rel l) ss) k

    by : ((feed == s.feed) ≡ true) ⊎ ((feed == s.feed) ≡ false)
        → (list_any (λ (x : Sub). feed == x.feed) ss ≡ true → (holding_all (flat_map (told_for feed rel l) ss) k).owed ≡ true)
        → (holding_all (flat_map (told_for feed rel l) (s ∷ ss)) k).owed ≡ true
    by (inl e) further =
        ap (λ (z : Kept). z.owed) (parts ∙ ap (holding_all (flat_map (told_for feed rel l) ss)) (sym (told_here feed rel l s k h e)))
        ∙ owed-holding_all (flat_map (told_for feed rel l) ss) (holding (text_as rel l s.own) k) refl
    by (inr e) further =
        ap (λ (z : Kept). z.owed) (parts ∙ ap (holding_all (flat_map (told_for feed rel l) ss)) (sym (told_not feed rel l s k e)))
        ∙ further (ap (λ b. b || list_any (λ (x : Sub). feed == x.feed) ss) (sym e) ∙ any)

pub owed-hearing_for : (feed : ℕ) (rel : Name) (l : Line) (k : Kept) → feed_told l ≡ Some feed → is_following feed k ≡ true
    → (hearing_for feed rel l k).owed ≡ true
owed-hearing_for feed rel l k h any = owed_by feed rel l k.subs k h any

-- ---- one number after another

take_more : (subs : List Sub) (at : ℕ) (s : Sub) → slice_get subs at ≡ Some s → take (suc at) subs ≡ take at subs ++ s ∷ []
take_more [] at s h = cc
take_more (x ∷ xs) zero s h = let same : x ≡ s = cc in ap (λ z. z ∷ []) same
take_more (x ∷ xs) (suc at) s h = ap (λ z. x ∷ z) (take_more xs at s h)

pub told_more : (f : Sub → List Told) (subs : List Sub) (at : ℕ) (s : Sub) (c before now : Kept) → slice_get subs at ≡ Some s
    → before ≡ holding_all (flat_map f (take at subs)) c → now ≡ holding_all (f s) before → now ≡ holding_all (flat_map f (take (at + 1) subs)) c
told_more f subs at s c before now h e g =
    g ∙ (ap (holding_all (f s)) e ∙ (sym (holding_all-append (flat_map f (take at subs)) (f s) c)
    ∙ ap (λ ts. holding_all ts c) (sym (ap (flat_map f) (ap (λ n. take n subs) (add-one at) ∙ take_more subs at s h)
    ∙ (flat_map-append f (take at subs) (s ∷ []) ∙ ap (λ z. flat_map f (take at subs) ++ z) (append-nil (f s)))))))

there : (subs : List Sub) (at : ℕ) → at < length subs → (s : Sub) × (slice_get subs at ≡ Some s)
there [] at h = absurd (let no : ⊥ = omega (arith, h) in no)
there (x ∷ xs) zero h = (x, refl)
there (x ∷ xs) (suc at) h = there xs at (omega (arith, h))

pub subs-holding_all : (ts : List Told) (c now : Kept) → now ≡ holding_all ts c → now.subs ≡ c.subs
subs-holding_all ts c now e = ap (λ (k : Kept). k.subs) e ∙ subs_kept ts c

pub holding_all-take_next : (f : Sub → List Told) (at : ℕ) (c before now : Kept) → at < length c.subs → before ≡ holding_all (flat_map f (take at c.subs)) c
    → ((s : Sub) → slice_get before.subs at ≡ Some s → now ≡ holding_all (f s) before) → now ≡ holding_all (flat_map f (take (at + 1) c.subs)) c
holding_all-take_next f at c before now lt e step =
    let p = there c.subs at lt in
    told_more f c.subs at p.0 c before now p.1 e (step p.0 (ap (λ ss. slice_get ss at) (subs-holding_all (flat_map f (take at c.subs)) c before e) ∙ p.1))

-- ---- lines

told_same : (feeds : List Feed) (l : Line) (feed : ℕ) (s : Sub) → feed_told l ≡ Some feed → told_for feed (rel_read feeds feed) l s ≡ own_line feeds l s
told_same feeds (reply n r) feed s h = cc
told_same feeds (change n j rows) feed s h = let same : j ≡ feed = cc in sym (ap (λ z. told_for z (rel_read feeds z) (change n j rows) s) same)
told_same feeds (ended n j why rows) feed s h = let same : j ≡ feed = cc in sym (ap (λ z. told_for z (rel_read feeds z) (ended n j why rows) s) same)

pub at_all-hearing_for : (feeds : List Feed) (l : Line) (feed : ℕ) (places : Places) → feed_told l ≡ Some feed
    → at_all (hearing_for feed (rel_read feeds feed) l) places ≡ at_all (hearing_line feeds l) places
at_all-hearing_for feeds l feed places h = at_all-same (hearing_for feed (rel_read feeds feed) l) (hearing_line feeds l)
    (λ k i. holding_all (flat_map (λ s. told_same feeds l feed s h i) k.subs) k) places

untold : (feeds : List Feed) (l : Line) (subs : List Sub) → feed_told l ≡ None → flat_map (own_line feeds l) subs ≡ []
untold feeds (reply n r) [] h = refl
untold feeds (reply n r) (s ∷ ss) h = untold feeds (reply n r) ss h
untold feeds (change n j rows) subs h = cc
untold feeds (ended n j why rows) subs h = cc

-- what is of no feed nobody is told
pub at_all-hearing_line_none : (feeds : List Feed) (l : Line) (places : Places) → feed_told l ≡ None → places ≡ at_all (hearing_line feeds l) places
at_all-hearing_line_none feeds l places h = at_all-itself (hearing_line feeds l) (λ k. ap (λ ts. holding_all ts k) (sym (untold feeds l k.subs h))) places

pub at_all-hearing_lines_none : (feeds : List Feed) (places : Places) → places ≡ at_all (hearing_lines feeds []) places
at_all-hearing_lines_none feeds places = at_all-itself (hearing_lines feeds []) (λ k. refl) places

line_more : (feeds : List Feed) (ls : List Line) (l : Line) (k : Kept) → hearing_line feeds l (hearing_lines feeds ls k) ≡ hearing_lines feeds (ls ++ l ∷ []) k
line_more feeds ls l k =
    let own = λ (m : Line). flat_map (own_line feeds m) k.subs in
    ap (λ subs. holding_all (flat_map (own_line feeds l) subs) (holding_all (flat_map own ls) k)) (subs_kept (flat_map own ls) k)
    ∙ (sym (holding_all-append (flat_map own ls) (own l) k)
    ∙ ap (λ ts. holding_all ts k) (sym (flat_map-append own ls (l ∷ []) ∙ ap (λ z. flat_map own ls ++ z) (append-nil (own l)))))

hear_more : (feeds : List Feed) (ls : List Line) (l : Line) (places : Places)
    → at_all (hearing_line feeds l) (at_all (hearing_lines feeds ls) places) ≡ at_all (hearing_lines feeds (ls ++ l ∷ [])) places
hear_more feeds ls l places =
    at_all-at_all (hearing_line feeds l) (hearing_lines feeds ls) places
    ∙ at_all-same (λ k. hearing_line feeds l (hearing_lines feeds ls k)) (hearing_lines feeds (ls ++ l ∷ [])) (line_more feeds ls l) places

-- one line more of a list
pub at_all-hearing_lines_next : {A : Type 0} (read : A → Line) (feeds : List Feed) (xs : List A) (i : ℕ) (x : A) (places before now : Places) → i < length xs
    → x ≡ get_or xs i x
    → before ≡ at_all (hearing_lines feeds (map read (take i xs))) places → now ≡ at_all (hearing_line feeds (read x)) before
    → now ≡ at_all (hearing_lines feeds (map read (take (i + 1) xs))) places
at_all-hearing_lines_next read feeds xs i x places before now lt is e g =
    g ∙ (ap (at_all (hearing_line feeds (read x))) e ∙ (hear_more feeds (map read (take i xs)) (read x) places
    ∙ ap (λ ls. at_all (hearing_lines feeds ls) places) (ap (λ y. map read (take i xs) ++ read y ∷ []) is ∙ sym (map_more read xs i x lt))))

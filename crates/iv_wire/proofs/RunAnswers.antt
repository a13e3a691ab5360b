-- A run answers line after line.
use Rattle.std.proofs.Common.{◌≡◌, ℕ, zero, suc, ◌+◌, ◌-◌, ◌<◌, List, [], ◌∷◌, ◌++◌, take, length, Option, Some, None, Ok, Err, ap, ◌∙◌, sym, refl, arith, subst, append_assoc, append-nil, zero-add, suc-add}
use Rattle.std.specs.Prelude.{Vec, flat_map, ⊤}
use Rattle.std.specs.declared.alloc.Global.{Global}
use Rattle.std.specs.Io.KnownBytes.{Appends, prepend_known}
use Rattle.iv_machine.specs.Machine.{step}
use Rattle.iv_machine.specs.State.{State}
use Rattle.iv_engine.specs.Engine.{Engine, IsBehind}
use Rattle.iv_lines.specs.Cut.{Cut, nothing, whole, endless, cut}
use Rattle.iv_request.specs.Reading.{Reading, faulty, asked}
use Rattle.iv_lines.specs.Answer.{readings_of, Heard, behind, heard, heard_cut, Told, told, Answer, answer_to, answer}
use Rattle.iv_lines.specs.Texts.{line_text, fault_text}
use Rattle.iv_lines.specs.Reads.{IsCut, IsCutShort, BeginsLine}
use Rattle.iv_wire.specs.Endings.{Run, IsAnswered}
use Rattle.iv_lines.specs.declared.lines.End.{End}
use Rattle.iv_lines.specs.declared.lines.End.TheVariants.{Input, Lines, TooLong}
use Rattle.iv_lines.specs.declared.lines.RunFault.TheVariants.{Read, Write, Memory}
use Rattle.iv_lines.specs.declared.lines.Next.TheVariants as comes

pub appends_more : (old mid new : Option (List ℕ)) (x y : List ℕ) → Appends old mid x → Appends mid new y → Appends old new (x ++ y)
appends_more None mid new x y h k = tt
appends_more (Some xs) None new x y h k = absurd h
appends_more (Some xs) (Some ys) None x y h k = absurd k
appends_more (Some xs) (Some ys) (Some zs) x y h k = k ∙ (ap (λ v. v ++ y) h ∙ append_assoc xs x y)

appends_none : (old : Option (List ℕ)) → Appends old old []
appends_none None = tt
appends_none (Some xs) = sym (append-nil xs)

take_past : (xs ys : List ℕ) (m : ℕ) → take (length xs + m) (xs ++ ys) ≡ xs ++ take m ys
take_past [] ys m = rw zero-add refl
take_past (x ∷ xs) ys m = rw (suc-add (length xs) m) (ap (λ v. x ∷ v) (take_past xs ys m))

-- ---- readings, one behind another

abbrev follow : Told → Told → Told
follow t u = record { state = u.state; text = t.text ++ u.text }

told-append : (s : State) (rs qs : List Reading) → told s (rs ++ qs) ≡ follow (told s rs) (told (told s rs).state qs)
told-append s [] qs = refl
told-append s (faulty n ∷ rs) qs =
    let u = told (told s rs).state qs in
    ap (λ (t : Told). record { state = t.state; text = fault_text n ++ t.text }) (told-append s rs qs)
    ∙ (λ i. record { state = u.state; text = sym (append_assoc (fault_text n) (told s rs).text u.text) i })
told-append s (asked c ∷ rs) qs =
    let one = step s c in
    let u = told (told one.state rs).state qs in
    ap (λ (t : Told). record { state = t.state; text = flat_map line_text one.lines ++ t.text }) (told-append one.state rs qs)
    ∙ (λ i. record { state = u.state; text = sym (append_assoc (flat_map line_text one.lines) (told one.state rs).text u.text) i })

behind_behind : (rs qs : List Reading) (h : Heard) → behind rs (behind qs h) ≡ behind (rs ++ qs) h
behind_behind rs qs h = λ i. record { readings = sym (append_assoc rs qs h.readings) i; end = h.end; rest = h.rest }

-- ---- first k lines, and then more

abbrev Goes : ℕ → ℕ → List ℕ → Type 0
Goes k m bytes = (heard k bytes).end ≡ Lines → heard (k + m) bytes ≡ behind (heard k bytes).readings (heard m (heard k bytes).rest)

add_cut : (k m : ℕ) (c : Cut) → ((bytes : List ℕ) → Goes k m bytes) → (heard_cut (heard k) c).end ≡ Lines → heard_cut (heard (k + m)) c ≡ behind (heard_cut (heard k) c).readings (heard m (heard_cut (heard k) c).rest)
add_cut k m nothing ih h = cc
add_cut k m endless ih h = cc
add_cut k m (whole line bytes) ih h = ap (behind (readings_of line)) (ih bytes h) ∙ behind_behind (readings_of line) (heard k bytes).readings (heard m (heard k bytes).rest)

pub heard-add : (k m : ℕ) (bytes : List ℕ) → Goes k m bytes
heard-add zero m bytes h = rw zero-add refl
heard-add (suc k) m bytes h = rw (suc-add k m) (add_cut k m (cut bytes) (heard-add k m) h)

-- the answer to what is heard behind an answer
abbrev on : Answer → Heard → Answer
on a h = let t = told a.state h.readings in record { state = t.state; text = a.text ++ t.text; end = h.end; rest = h.rest }

-- what the next cut gives, behind k lines
next_answer : (k m : ℕ) (s : State) (bytes left : List ℕ) (c : Cut) → (answer k s bytes).end ≡ Lines → (answer k s bytes).rest ≡ left → cut left ≡ c → answer (k + suc m) s bytes ≡ on (answer k s bytes) (heard_cut (heard m) c)
next_answer k m s bytes left c e r q =
    let rs = (heard k bytes).readings in
    ap (answer_to s) (heard-add k (suc m) bytes e ∙ ap (behind rs) (ap (heard (suc m)) r ∙ ap (heard_cut (heard m)) q))
    ∙ ap (λ (t : Told). record { state = t.state; text = t.text; end = (heard_cut (heard m) c).end; rest = (heard_cut (heard m) c).rest }) (told-append s rs (heard_cut (heard m) c).readings)

-- behind k lines comes one more
next_line_answer : (k : ℕ) (s : State) (bytes left line rest : List ℕ) → (answer k s bytes).end ≡ Lines → (answer k s bytes).rest ≡ left → cut left ≡ whole line rest → answer (k + 1) s bytes ≡ on (answer k s bytes) (record { readings = readings_of line; end = Lines; rest = rest })
next_line_answer k s bytes left line rest e r q =
    next_answer k zero s bytes left (whole line rest) e r q
    ∙ ap (λ (rs : List Reading). on (answer k s bytes) (record { readings = rs; end = Lines; rest = rest })) (append-nil (readings_of line))

-- behind k lines comes one without an end
next_too_long : (k m : ℕ) (s : State) (bytes left : List ℕ) → (answer k s bytes).end ≡ Lines → (answer k s bytes).rest ≡ left → cut left ≡ endless → answer (k + suc m) s bytes ≡ record { state = (answer k s bytes).state; text = (answer k s bytes).text ++ fault_text 22; end = TooLong; rest = [] }
next_too_long k m s bytes left e r q =
    let a = answer k s bytes in
    next_answer k m s bytes left endless e r q
    ∙ ap (λ (v : List ℕ). record { state = a.state; text = a.text ++ v; end = TooLong; rest = [] }) (append-nil (fault_text 22))

-- ---- what the run keeps, and its endings

abbrev pub ran : ℕ → Option (List ℕ) → Option (List ℕ) → Option (List ℕ) → Option (List ℕ) → Engine → Run
ran lines given left taken written now = record { lines = lines; given = given; left = left; taken = taken; written = written; now = now }

-- k lines are answered, this is the state, and these bytes are left behind them
abbrev pub HasTold : State → Option (List ℕ) → ℕ → Option (List ℕ) → Option (List ℕ) → Engine → Option (List ℕ) → Type 0
HasTold s None k old new now left = ⊤
HasTold s (Some bytes) k old new now None = ⊥
HasTold s (Some bytes) k old new now (Some left) = (((answer k s bytes).end ≡ Lines) × Appends old new (answer k s bytes).text) × IsBehind (answer k s bytes).state now × ((answer k s bytes).rest ≡ left)

pub HasTold-start : (s : State) (now : Engine) (left old : Option (List ℕ)) (ahead : List ℕ) → IsBehind s now → ahead ≡ [] → HasTold s left 0 old old now (prepend_known ahead left)
HasTold-start s now None old ahead b e = tt
HasTold-start s now (Some bs) old ahead b e = ((refl, appends_none old), b, rw e refl)

-- what the answer to a line says, for each state that stands behind the engine
abbrev pub Tells : Engine → Engine → List ℕ → List ℕ → Type 0
Tells now next line text = (t : State) → IsBehind t now → (text ≡ (told t (readings_of line)).text) × IsBehind (told t (readings_of line)).state next

-- from what the call says of the slices that it was passed
pub Tells-told : (now next : Engine) (line given text said : List ℕ) → given ≡ line → said ≡ text → ((t : State) → IsBehind t now → text ≡ (told t (readings_of given)).text) → ((t : State) → IsBehind t now → IsBehind (told t (readings_of given)).state next) → Tells now next line said
Tells-told now next line given text said e f h k t b = (f ∙ (h t b ∙ ap (λ (l : List ℕ). (told t (readings_of l)).text) e), subst (λ (l : List ℕ). IsBehind (told t (readings_of l)).state next) e (k t b))

pub HasTold-next : (s : State) (now next : Engine) (left mid new old most written : Option (List ℕ)) (k : ℕ) (line : Vec ℕ Global) (text : List ℕ) → HasTold s left k old most now mid → IsCut mid (comes.Line line) new → Tells now next line.items text → Appends most written text → HasTold s left (k + 1) old written next new
HasTold-next s now next None mid new old most written k line text h c t w = tt
HasTold-next s now next (Some bs) None new old most written k line text h c t w = absurd h
HasTold-next s now next (Some bs) (Some xs) None old most written k line text h c t w = absurd c
HasTold-next s now next (Some bs) (Some xs) (Some ys) old most written k line text h c t w =
    let u = told (answer k s bs).state (readings_of line.items) in
    let p : (text ≡ u.text) × IsBehind u.state next = t (answer k s bs).state h.1 in
    subst (λ (a : Answer). ((a.end ≡ Lines) × Appends old written a.text) × IsBehind a.state next × (a.rest ≡ ys)) (sym (next_line_answer k s bs xs line.items ys h.0.0 h.2 c))
    ((refl, appends_more old most written (answer k s bs).text u.text h.0.1 (subst (λ (v : List ℕ). Appends most written v) p.0 w)), p.1, refl)

split_lines : (lines k : ℕ) → k < lines → k + suc (lines - (k + 1)) ≡ lines
split_lines lines k l = omega arith

pub IsAnswered-Input : (s : State) (now : Engine) (any left mid new old written : Option (List ℕ)) (lines k : ℕ) → k < lines → HasTold s left k old written now mid → IsCut mid comes.Nothing new → IsAnswered s (ran lines left any old written now) (Ok Input)
IsAnswered-Input s now any None mid new old written lines k l h c = tt
IsAnswered-Input s now any (Some bs) None new old written lines k l h c = absurd h
IsAnswered-Input s now any (Some bs) (Some xs) None old written lines k l h c = absurd c
IsAnswered-Input s now any (Some bs) (Some xs) (Some ys) old written lines k l h c =
    let e = next_answer k (lines - (k + 1)) s bs xs nothing h.0.0 h.2 c in
    let e' = ap (λ n. answer n s bs) (sym (split_lines lines k l)) ∙ e in
    subst (λ (a : Answer). Appends old written a.text × IsBehind a.state now × (Input ≡ a.end)) (sym e') (rw append-nil h.0.1, h.1, refl)

pub IsAnswered-TooLong : (s : State) (now : Engine) (any left mid new old most written : Option (List ℕ)) (lines k : ℕ) (text : List ℕ) → k < lines → HasTold s left k old most now mid → IsCut mid comes.Endless new → text ≡ fault_text 22 → Appends most written text → IsAnswered s (ran lines left any old written now) (Ok TooLong)
IsAnswered-TooLong s now any None mid new old most written lines k text l h c e w = tt
IsAnswered-TooLong s now any (Some bs) None new old most written lines k text l h c e w = absurd h
IsAnswered-TooLong s now any (Some bs) (Some xs) None old most written lines k text l h c e w = absurd c
IsAnswered-TooLong s now any (Some bs) (Some xs) (Some ys) old most written lines k text l h c e w =
    let f = next_too_long k (lines - (k + 1)) s bs xs h.0.0 h.2 c in
    let e' = ap (λ n. answer n s bs) (sym (split_lines lines k l)) ∙ f in
    subst (λ (a : Answer). Appends old written a.text × IsBehind a.state now × (TooLong ≡ a.end)) (sym e') (appends_more old most written (answer k s bs).text (fault_text 22) h.0.1 (subst (λ (v : List ℕ). Appends most written v) e w), h.1, refl)

pub IsAnswered-Lines : (s : State) (now : Engine) (any left mid old written : Option (List ℕ)) (lines k : ℕ) → k ≡ lines → HasTold s left k old written now mid → IsAnswered s (ran lines left any old written now) (Ok Lines)
IsAnswered-Lines s now any None mid old written lines k l h = tt
IsAnswered-Lines s now any (Some bs) None old written lines k l h = absurd h
IsAnswered-Lines s now any (Some bs) (Some xs) old written lines k l h =
    subst (λ (n : ℕ). Appends old written (answer n s bs).text × IsBehind (answer n s bs).state now × (Lines ≡ (answer n s bs).end)) l (h.0.1, h.1, sym h.0.0)

pub IsAnswered-Read : (s : State) (now : Engine) (left mid new old written : Option (List ℕ)) (lines k : ℕ) → k < lines → HasTold s left k old written now mid → IsCutShort mid new → IsAnswered s (ran lines left new old written now) (Err Read)
IsAnswered-Read s now None mid new old written lines k l h c = tt
IsAnswered-Read s now (Some bs) None new old written lines k l h c = absurd h
IsAnswered-Read s now (Some bs) (Some xs) None old written lines k l h c = absurd c
IsAnswered-Read s now (Some bs) (Some xs) (Some ys) old written lines k l h c = (k, l, h.0, (h.1, subst (λ (r : List ℕ). BeginsLine r ys) (sym h.2) c))

pub IsAnswered-Memory : (s : State) (now next : Engine) (left mid new old written : Option (List ℕ)) (lines k : ℕ) → k < lines → HasTold s left k old written now mid → IsAnswered s (ran lines left new old written next) (Err Memory)
IsAnswered-Memory s now next None mid new old written lines k l h = tt
IsAnswered-Memory s now next (Some bs) None new old written lines k l h = absurd h
IsAnswered-Memory s now next (Some bs) (Some xs) new old written lines k l h = (k, l, h.0)

write_by : (s : State) (now next : Engine) (bs xs : List ℕ) (new old most written : Option (List ℕ)) (lines k n : ℕ) (u : Told) (end : End) (rest : List ℕ) → k < lines → HasTold s (Some bs) k old most now (Some xs) → answer (k + 1) s bs ≡ record { state = u.state; text = (answer k s bs).text ++ u.text; end = end; rest = rest } → IsBehind u.state next → Appends most written (take n u.text) → IsAnswered s (ran lines (Some bs) new old written next) (Err Write)
write_by s now next bs xs new old most written lines k n u end rest l h e t w =
    let x = (answer k s bs).text in (
      k,
      l,
      (
        h.0.0,
        subst (λ (b : Answer). IsBehind b.state next) (sym e) t,
        (
          length x + n,
          omega arith,
          subst (λ (b : Answer). Appends old written (take (length x + n) b.text)) (sym e)
              (subst (λ (v : List ℕ). Appends old written v) (sym (take_past x u.text n)) (appends_more old most written x (take n u.text) h.0.1 w)),
        ),
      ),
    )

pub IsAnswered-Write : (s : State) (now next : Engine) (any left mid new old most written : Option (List ℕ)) (lines k : ℕ) (line : Vec ℕ Global) (text : List ℕ) → k < lines → HasTold s left k old most now mid → IsCut mid (comes.Line line) new → Tells now next line.items text → (n : ℕ) × Appends most written (take n text) → IsAnswered s (ran lines left any old written next) (Err Write)
IsAnswered-Write s now next any None mid new old most written lines k line text l h c t w = tt
IsAnswered-Write s now next any (Some bs) None new old most written lines k line text l h c t w = absurd h
IsAnswered-Write s now next any (Some bs) (Some xs) None old most written lines k line text l h c t w = absurd c
IsAnswered-Write s now next any (Some bs) (Some xs) (Some ys) old most written lines k line text l h c t w =
    let u = told (answer k s bs).state (readings_of line.items) in
    let p : (text ≡ u.text) × IsBehind u.state next = t (answer k s bs).state h.1 in
    write_by s now next bs xs any old most written lines k w.0 u Lines ys l h (next_line_answer k s bs xs line.items ys h.0.0 h.2 c) p.1 (subst (λ (v : List ℕ). Appends most written (take w.0 v)) p.0 w.1)

pub IsAnswered-Write_endless : (s : State) (now : Engine) (any left mid new old most written : Option (List ℕ)) (lines k : ℕ) (text : List ℕ) → k < lines → HasTold s left k old most now mid → IsCut mid comes.Endless new → text ≡ fault_text 22 → (n : ℕ) × Appends most written (take n text) → IsAnswered s (ran lines left any old written now) (Err Write)
IsAnswered-Write_endless s now any None mid new old most written lines k text l h c e w = tt
IsAnswered-Write_endless s now any (Some bs) None new old most written lines k text l h c e w = absurd h
IsAnswered-Write_endless s now any (Some bs) (Some xs) None old most written lines k text l h c e w = absurd c
IsAnswered-Write_endless s now any (Some bs) (Some xs) (Some ys) old most written lines k text l h c e w =
    let u : Told = record { state = (answer k s bs).state; text = fault_text 22 } in
    write_by s now now bs xs any old most written lines k w.0 u TooLong [] l h (next_too_long k zero s bs xs h.0.0 h.2 c) h.1 (subst (λ (v : List ℕ). Appends most written (take w.0 v)) e w.1)

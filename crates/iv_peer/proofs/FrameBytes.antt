-- Frames behind frames, and more bytes behind them.
use Rattle.std.proofs.Common.{◌≡◌, ℕ, zero, suc, ◌<◌, List, [], ◌∷◌, ◌++◌, length, drop, Result, Ok, Err, refl, ◌∙◌, ap, sym, subst, arith, length-drop}
use Rattle.std.proofs.lemmas.List.{drop-append-le}
use Rattle.websocket.specs.declared.error.Error.{Error}
use Rattle.websocket.specs.declared.protocol.frame.codec.FrameStatus.{FrameStatus}
use Rattle.websocket.specs.declared.protocol.frame.codec.FrameStatus.TheVariants.{Partial, Complete}
use Rattle.websocket.specs.Connection.{Connection, Effect, read_step}
use Rattle.websocket.specs.Stream.{Trace, prepend, after_read, read_times, read_all}
use Rattle.websocket.proofs.FrameLemmas.{Waits}
use Rattle.websocket.proofs.StreamLemmas.{TookFrame_from_read, read_step-append}
use Rattle.iv_peer.specs.Lives.{Decodes, nothing, frame}

abbrev Outcome : Type 0
Outcome = Result (FrameStatus (ℕ × Effect)) Error

-- one frame more
pub Decodes-next : (c d : Connection) (bytes rest : List ℕ) (es : List Effect) (n : ℕ) (e : Effect) → Decodes c bytes es d rest → read_step d rest ≡ Ok (Complete (n, e)) → Decodes c bytes (es ++ e ∷ []) e.next (drop n rest)
Decodes-next _ _ _ _ _ n e (nothing c bytes) h = frame c e.next bytes (drop n bytes) n e [] h (nothing e.next (drop n bytes))
Decodes-next _ _ _ _ _ n e (frame c d bytes rest m x xs s t) h = frame c e.next bytes (drop n rest) m x (xs ++ e ∷ []) s (Decodes-next x.next d (drop m bytes) rest xs n e t h)

not_waiting : (r : Outcome) (n : ℕ) (e : Effect) → r ≡ Ok (Complete (n, e)) → ¬ (Waits r)
not_waiting r n e h = λ w. cc (h, w.1)

-- more bytes behind
pub Decodes-append : (c d : Connection) (bytes rest more : List ℕ) (es : List Effect) → Decodes c bytes es d rest
    → Decodes c (bytes ++ more) es d (rest ++ more)
Decodes-append _ _ _ _ more _ (nothing c bytes) = nothing c (bytes ++ more)
Decodes-append _ _ _ _ more _ (frame c d bytes rest n e xs s t) =
    let took = TookFrame_from_read c bytes (n, e) s in
    frame c d (bytes ++ more) (rest ++ more) n e xs (read_step-append c bytes more (not_waiting _ n e s) ∙ s)
    (subst (λ z. Decodes e.next z xs d (rest ++ more)) (sym (drop-append-le n bytes more took.inside)) (Decodes-append e.next d (drop n bytes) rest more xs t))

-- ---- as one reading of all

after_same : (f g : Connection → List ℕ → Trace) (conn : Connection) (bs : List ℕ) (r : Outcome) → read_step conn bs ≡ r
    → ((next : Connection) (rest : List ℕ) → length rest < length bs → f next rest ≡ g next rest) → after_read f conn bs r ≡ after_read g conn bs r
after_same f g conn bs (Err e) is same = refl
after_same f g conn bs (Ok (Partial n)) is same = refl
after_same f g conn bs (Ok (Complete p)) is same =
    let took = TookFrame_from_read conn bs p is in
    ap (prepend (p.1 ∷ [])) (same p.1.next (drop p.0 bs) (omega (arith, length-drop p.0 bs, took.not_empty, took.inside)))

times_enough : (n m : ℕ) (conn : Connection) (bs : List ℕ) → length bs < n → length bs < m → read_times n conn bs ≡ read_times m conn bs
unfolding read_times
times_enough zero m conn bs hn hm = absurd (omega arith)
times_enough (suc n) zero conn bs hn hm = absurd (omega arith)
times_enough (suc n) (suc m) conn bs hn hm =
    after_same (read_times n) (read_times m) conn bs _ refl (λ next rest h. times_enough n m next rest (omega arith) (omega arith))

all_first : (conn : Connection) (bs : List ℕ) → read_all conn bs ≡ after_read (read_times (length bs)) conn bs (read_step conn bs)
unfolding read_times
all_first conn bs = refl

one_read : (c : Connection) (bytes : List ℕ) (n : ℕ) (e : Effect) → read_step c bytes ≡ Ok (Complete (n, e)) → read_all c bytes ≡ prepend (e ∷ []) (read_all e.next (drop n bytes))
one_read c bytes n e s =
    let took = TookFrame_from_read c bytes (n, e) s in
    all_first c bytes ∙ (ap (after_read (read_times (length bytes)) c bytes) s
    ∙ ap (prepend (e ∷ [])) (times_enough (length bytes) (suc (length (drop n bytes))) e.next (drop n bytes) (omega (arith, length-drop n bytes, took.not_empty, took.inside)) (omega arith)))

pub read_all-Decodes : (c d : Connection) (bytes rest : List ℕ) (es : List Effect) → Decodes c bytes es d rest → read_all c bytes ≡ prepend es (read_all d rest)
read_all-Decodes _ _ _ _ _ (nothing c bytes) = refl
read_all-Decodes _ _ _ _ _ (frame c d bytes rest n e xs s t) =
    one_read c bytes n e s ∙ ap (prepend (e ∷ [])) (read_all-Decodes e.next d (drop n bytes) rest xs t)

-- who waits has read all
pub read_all-Partial : (c : Connection) (bytes : List ℕ) (n : ℕ) → read_step c bytes ≡ Ok (Partial n)
    → read_all c bytes ≡ record { effects = []; end = Ok (c, bytes) }
read_all-Partial c bytes n s = all_first c bytes ∙ ap (after_read (read_times (length bytes)) c bytes) s

-- What becomes of a text that is presented.
use Rattle.std.proofs.Common.{◌≡◌, ◌⊎◌, inl, inr, ℕ, Bool, true, false, cond, List, refl, sym, ap, ◌∙◌, subst}
use Rattle.std.specs.Prelude.{IfOk, Result, Ok, Err}
use Rattle.sha2.specs.Sha256.{sha256}
use Rattle.iv_jwt.specs.Tokens.{Granted, IsGranted, judged}
use Rattle.iv_jwt.specs.declared.tokens.Fault.{Fault}
use Rattle.iv_jwt.specs.declared.tokens.Fault.TheVariants as fault
use Rattle.iv_tokens.specs.declared.web.Judged.{Judged}
use Rattle.iv_tokens.specs.declared.web.Judged.TheVariants as answer
use Rattle.iv_tokens.specs.Entries.{Entry}
use Rattle.iv_tokens.specs.Web.{IsWeb, Web, answer_of, answer_to, is_among, is_full, web_of}

pub not_memory : (x : Result Granted Fault) (why : Fault) → (why ≡ fault.Memory → ⊥) → (why ≡ fault.Memory) ⊎ (x ≡ Err why) → Err why ≡ x
not_memory x why n (inl e) = absurd (n e)
not_memory x why n (inr e) = sym e

-- it is known already
pub answer_to-Known : (es : List Entry) (secret : List ℕ) (ws : List Web) (now : ℕ) (text digest : List ℕ) → digest ≡ sha256 text → is_among digest es ws ≡ true
    → Err answer.Known ≡ answer_to es secret ws now text
answer_to-Known es secret ws now text digest d h =
    sym (ap (λ b. cond b (Err answer.Known) (answer_of ws now (sha256 text) (judged secret now text))) (subst (λ (x : List ℕ). is_among x es ws ≡ true) d h))

-- it is judged
pub answer_to-judged : (es : List Entry) (secret : List ℕ) (ws : List Web) (now : ℕ) (text digest : List ℕ) (r : Result Granted Fault) → digest ≡ sha256 text → is_among digest es ws ≡ false
    → r ≡ judged secret now text → answer_of ws now digest r ≡ answer_to es secret ws now text
answer_to-judged es secret ws now text digest r d h e =
    ap (answer_of ws now digest) e
    ∙ (ap (λ x. answer_of ws now x (judged secret now text)) d
    ∙ sym (ap (λ b. cond b (Err answer.Known) (answer_of ws now (sha256 text) (judged secret now text))) (subst (λ (x : List ℕ). is_among x es ws ≡ false) d h)))

ok_is_err : (w : Web) (j : Judged) (r : Result Web Judged) → r ≡ Ok w → r ≡ Err j → ⊥
ok_is_err w j r h k = cc

same_ok : (v w : Web) (r : Result Web Judged) → r ≡ Ok v → r ≡ Ok w → v ≡ w
same_ok v w r h k = cc

-- what is known from then on was granted
web_granted : (secret : List ℕ) (ws : List Web) (now : ℕ) (text digest : List ℕ) (g : Granted) (w : Web) → digest ≡ sha256 text → IsGranted secret now text g
    → answer_of ws now digest (Ok g) ≡ Ok w → IsWeb secret w
web_granted secret ws now text digest g w d is e = by (is_full g.subject ws) e
  where
    by : (b : Bool) → cond b (Err answer.Full) (Ok (web_of now digest g)) ≡ Ok w → IsWeb secret w
    by true h = absurd (ok_is_err w answer.Full (Err answer.Full) h refl)
    by false h = subst (λ (v : Web). IsWeb secret v) (same_ok (web_of now digest g) w (Ok (web_of now digest g)) refl h) (record { text = text; digest = d; granted = is })

pub IsWeb-IsGranted : (secret : List ℕ) (ws : List Web) (now : ℕ) (text digest : List ℕ) (g : Granted) (r : Result Web Judged) → digest ≡ sha256 text → IsGranted secret now text g
    → r ≡ answer_of ws now digest (Ok g) → IfOk r (IsWeb secret)
IsWeb-IsGranted secret ws now text digest g (Ok w) d is e = web_granted secret ws now text digest g w d is (sym e)
IsWeb-IsGranted secret ws now text digest g (Err j) d is e = tt

-- What a journal says of a log is read back, and leads a desk there.
use Rattle.std.specs.Str.{is_utf8}
use Rattle.std.proofs.Common.{◌≡◌, ◌&&◌, ℕ, Bool, true, List, [], append-nil, refl, ap, ◌∙◌, drop, sym, subst}
use Rattle.iv_journal.specs.Journal.{Line}
use Rattle.iv_audit.specs.Reading.{lines_in}
use Rattle.iv_audit.specs.Writing.{IsAnew}
use Rattle.iv_head.specs.Begun.{Begun, IsReadBack, begun_in, lines_of}
use Rattle.iv_records.specs.Names.{is_count, is_epoch}
use Rattle.iv_clients.specs.Tokens.{Token}
use Rattle.iv_host.specs.Beginning.{head_with}
use Rattle.iv_desk.specs.declared.desk.Desk.{Desk}
use Rattle.iv_running.specs.Running.{IsBack}
use Rattle.iv_running.specs.Logs.{BeginsLog, from_start}

all_three : (a b c : Bool) → a ≡ true → b ≡ true → c ≡ true → (a && (b && c)) ≡ true
all_three a b c p q r =
    subst (λ (z : Bool). (z && (b && c)) ≡ true) (sym p) (subst (λ (z : Bool). (z && c) ≡ true) (sym q) (subst (λ (z : Bool). z ≡ true) (sym r) refl))

pub begins_log : IsReadBack → (digits name epoch : List ℕ) (b : Begun) (given : List Line) (bytes : List ℕ) → b ≡ from_start name epoch → given ≡ lines_of b
    → is_utf8 name ≡ true → is_epoch epoch ≡ true → IsAnew digits given bytes → BeginsLog name epoch bytes
begins_log law digits name epoch b given bytes is e u v h =
    ap begun_in (h.same ∙ (e ∙ (ap lines_of is ∙ sym (append-nil (lines_of (from_start name epoch))))))
    ∙ law.back (from_start name epoch) []
    (record { log = all_three (is_utf8 name) (is_epoch epoch) (is_count 0) u v refl; standings = tt }) (refl, refl)

-- ---- a desk comes back

pub back_by : (cap : ℕ) (tokens : List Token) (epoch : List ℕ) (b : Begun) (said : ℕ) (lines given behind entries : List Line) (x : Desk)
    → (b, drop said lines) ≡ begun_in lines → lines ≡ given → behind ≡ given → entries ≡ drop said behind → IsBack cap tokens (head_with epoch b) entries x
    → IsBack cap tokens (head_with epoch (begun_in given).0) (begun_in given).1 x
back_by cap tokens epoch b said lines given behind entries x e f g k h =
    let one : IsBack cap tokens (head_with epoch b) (drop said lines) x =
    subst (λ (ls : List Line). IsBack cap tokens (head_with epoch b) ls x) (k ∙ ap (λ (ls : List Line). drop said ls) (g ∙ sym f)) h in
    subst (λ (ls : List Line). IsBack cap tokens (head_with epoch (begun_in ls).0) (begun_in ls).1 x) f
    (subst (λ (p : Begun × List Line). IsBack cap tokens (head_with epoch p.0) p.1 x) e one)

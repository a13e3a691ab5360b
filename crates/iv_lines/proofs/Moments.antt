-- Reads behind reads.
use Rattle.std.proofs.Common.{◌≡◌, ◌≢◌, ℕ, ◌<◌, Bool, List, [], ◌∷◌, ◌++◌, length, Option, ap, ◌∙◌, sym, append_assoc, append-nil}
use Rattle.std.specs.List.{All, AllByRecursion}
use Rattle.std.specs.Io.KnownBytes.{prepend_known}
use Rattle.iv_lines.specs.Moments.{Moment, ReadsAt, IsMoment, IsWithinLine}
use Rattle.iv_lines.specs.Reads.{IsBegun}
use Rattle.iv_lines.proofs.Ahead.{Keeps-prepend_known}
use Rattle.iv_lines.proofs.FirstLine.{IsCutShort-IsBegun}

pub ReadsAt-none : (P : Moment → Type 0) (ms : List Moment) → ReadsAt P ms ms
ReadsAt-none P ms = record { more = []; behind = sym (append-nil ms); each = tt }

each_joins : (P : Moment → Type 0) (xs ys : List Moment) → AllByRecursion P xs → AllByRecursion P ys → AllByRecursion P (xs ++ ys)
each_joins P [] ys a b = b
each_joins P (x ∷ xs) ys a b = (a.0, each_joins P xs ys a.1 b)

pub ReadsAt-trans : (P : Moment → Type 0) (old mid new : List Moment) → ReadsAt P old mid → ReadsAt P mid new → ReadsAt P old new
ReadsAt-trans P old mid new a b = record {
  more = a.more ++ b.more;
  behind = b.behind ∙ (ap (λ (v : List Moment). v ++ b.more) a.behind ∙ append_assoc old a.more b.more);
  each = each_joins P a.more b.more a.each b.each;
}

each_like : (P Q : Moment → Type 0) (ms : List Moment) → ((m : Moment) → P m → Q m) → AllByRecursion P ms → AllByRecursion Q ms
each_like P Q [] f a = tt
each_like P Q (m ∷ ms) f a = (f m a.0, each_like P Q ms f a.1)

pub ReadsAt-map : (P Q : Moment → Type 0) (old new : List Moment) → ((m : Moment) → P m → Q m) → ReadsAt P old new → ReadsAt Q old new
ReadsAt-map P Q old new f a = record { more = a.more; behind = a.behind; each = each_like P Q a.more f a.each }

-- where nothing is ahead
pub ReadsAt-prepend_known : (ahead : List ℕ) (left taken : Option (List ℕ)) (flushed : Bool) (old new : List Moment) → ahead ≡ [] → ReadsAt (IsMoment left taken flushed) old new → ReadsAt (IsMoment (prepend_known ahead left) taken flushed) old new
ReadsAt-prepend_known ahead left taken flushed old new e = ReadsAt-map _ _ old new (λ m p. (Keeps-prepend_known ahead left m.left e p.0, p.1, p.2))

-- a line has begun, and more of it is read
pub ReadsAt-IsBegun : (bytes left taken : Option (List ℕ)) (flushed : Bool) (line : List ℕ) (room : ℕ) (old mid new : List Moment) → All (λ b. b ≢ 10) line → length line < 65537 → IsBegun room line bytes left → ReadsAt (IsWithinLine bytes taken flushed) old mid → ReadsAt (IsMoment left taken flushed) mid new → ReadsAt (IsWithinLine bytes taken flushed) old new
ReadsAt-IsBegun bytes left taken flushed line room old mid new p l b a c =
    ReadsAt-trans _ old mid new a (ReadsAt-map _ _ mid new (λ m h. (IsCutShort-IsBegun bytes left m.left room line b h.0 p l, h.1, h.2)) c)

-- Blocks, masked byte by byte.
use Rattle.std.proofs.Common.{◌≡◌, ℕ, ◌+◌, ◌<◌, ◌≤◌, List, [], ◌∷◌, ◌++◌, length, take, get_or, ap, ◌∙◌, sym}
use Rattle.std.specs.Prelude.{bit_xor}
use Rattle.std.proofs.Math.ListN.{length-set, set}
use Rattle.std.proofs.lemmas.List.{map-append, take_all, take_more, take_more_set}
use Rattle.iv_jwt.specs.Hmac.{masked}

pub masked-take_next : (mask : ℕ) (out block : List ℕ) (i : ℕ) → i < length out → i < length block → take i out ≡ masked mask (take i block)
    → take (i + 1) (set out i (bit_xor (get_or block i 0) mask)) ≡ masked mask (take (i + 1) block)
masked-take_next mask out block i h k e =
    take_more_set out i (bit_xor (get_or block i 0) mask) h
    ∙ (ap (λ z. z ++ bit_xor (get_or block i 0) mask ∷ []) e
    ∙ (sym (map-append (λ b. bit_xor b mask) (take i block) (get_or block i 0 ∷ [])) ∙ ap (masked mask) (sym (take_more block i 0 k))))

pub length-set_byte : (out : List ℕ) (i x : ℕ) → length (set out i x) ≡ length out
length-set_byte out i x = length-set out i x

pub masked-whole : (mask : ℕ) (out block : List ℕ) (i : ℕ) → length out ≤ i → length block ≤ i → take i out ≡ masked mask (take i block)
    → out ≡ masked mask block
masked-whole mask out block i h k e = sym (take_all i out h) ∙ (e ∙ ap (masked mask) (take_all i block k))

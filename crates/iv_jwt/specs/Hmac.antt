-- HMAC-SHA256 (RFC 2104, section 2; RFC 4231).
use Rattle.std.specs.Prelude.{ℕ, ◌-◌, if◌then◌else◌, List, ◌++◌, length, map, replicate, nat_lt, bit_xor}
use Rattle.sha2.specs.Sha256.{sha256}

-- a text, and zeros up to a block of SHA-256
abbrev pub padded : List ℕ → List ℕ
padded text = text ++ replicate (64 - length text) 0

-- a key that is longer than a block is hashed first
abbrev pub key_block : List ℕ → List ℕ
key_block key = if nat_lt 64 (length key) then padded (sha256 key) else padded key

-- each byte of the key's block, exclusive or a mask: 0x36 within, and 0x5c outside
abbrev pub masked : ℕ → List ℕ → List ℕ
masked mask block = map (λ b. bit_xor b mask) block

abbrev pub hmac : (key message : List ℕ) → List ℕ
hmac key message = sha256 (masked 0x5c (key_block key) ++ sha256 (masked 0x36 (key_block key) ++ message))

-- What the code's walk over a header shows.
use Rattle.std.specs.Prelude.{◌≡◌, ◌≤◌, ℕ, List, length, Some, None}
use Rattle.mail_headers.specs.Message.{rest_of}
use Rattle.mh_drafts.specs.declared.header.Header.{Header}
use Rattle.mh_drafts.specs.declared.header.Header.TheVariants.{Reserved, Behind}
use Rattle.mh_drafts.specs.Headers.{reserved_in}

-- the bytes from the first reserved field on; or there is none, and this stands behind the fields
abbrev pub IsHeaderOf : List ℕ → Header → Type 0
IsHeaderOf bytes (Reserved rest) = (reserved_in bytes ≡ Some rest.now) × (length rest.now ≤ length bytes)
IsHeaderOf bytes (Behind rest) =
    (reserved_in bytes ≡ None) × (rest.now ≡ rest_of bytes) × (length rest.now ≤ length bytes)

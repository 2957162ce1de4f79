-- The message that a draft becomes, as a function of the draft and of what is given.
use Rattle.std.specs.Prelude.{ℕ, zero, suc, ◌+◌, Bool, List, [], ◌∷◌, ◌++◌, if◌then◌else◌}
use Rattle.mh_drafts.specs.Drafted.{Drafted}
use Rattle.mh_drafts.specs.declared.item.Item.{Item}
use Rattle.mhbuild_compose.specs.declared.given.Given.{Given}
use Rattle.mhbuild_compose.specs.Eights.{flags_of}
use Rattle.mhbuild_compose.specs.Keys.{begins_in, takes_any}
use Rattle.mhbuild_compose.specs.Messages.{opened}
use Rattle.mhbuild_compose.specs.Roots.{all_nodes}
use Rattle.mhbuild_compose.specs.Written.{written}

-- as many keys as boundaries can tell apart
abbrev pub KEYS : ℕ
KEYS = 18446744073709551616

-- the least of so many keys, from one on, that isn't taken
unfoldable pub least_free : (ℕ → Bool) → ℕ → ℕ → ℕ
least_free taken zero key = key
least_free taken (suc more) key = if taken key then least_free taken more (key + 1) else key

-- so many keys, each the least above the one before
unfoldable pub keys_from : (ℕ → Bool) → ℕ → ℕ → List ℕ
keys_from taken key zero = []
keys_from taken key (suc count) = least_free taken KEYS key ∷ keys_from taken (least_free taken KEYS key + 1) count

-- those of the multiparts of these items with what is given
abbrev pub keys_of : ℕ → List Item → List Given → List ℕ
keys_of run items givens = keys_from (takes_any run (all_nodes items givens)) 0 (begins_in (all_nodes items givens))

-- the message: the fields, and then the nodes of the items with these keys
unfoldable pub composed : ℕ → Drafted → List Given → List ℕ
composed run d givens =
    opened d.fields
    ++ written run [] (flags_of (all_nodes d.items givens)) (keys_of run d.items givens) (all_nodes d.items givens)

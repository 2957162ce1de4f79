-- A word has one form.
use Rattle.std.proofs.Common.{◌≡◌, ℕ, List, [], ◌∷◌, Bool, sym, ◌∙◌}
use Rattle.mh_words.specs.Forms.{IsFolder, IsComponent, IsLoneDash, IsSwitchWord, IsMessage}

apart_heads : (a b : List ℕ) → 43 ∷ a ≡ 45 ∷ b → ⊥
apart_heads a b e = cc (e)

pub folder_message : {word : List ℕ} → IsFolder word → IsMessage word → ⊥
folder_message (name, e) m = m.no_plus name e

pub folder_switch : {components : Bool} {word name : List ℕ} → IsFolder word → IsSwitchWord components word name → ⊥
folder_switch {name = name} (rest, e) s = apart_heads rest name (sym e ∙ s.spelled)

pub folder_component : {components : Bool} {word name : List ℕ} → IsFolder word → IsComponent components word name → ⊥
folder_component {name = name} (rest, e) k = apart_heads rest (45 ∷ name) (sym e ∙ k.spelled)

pub message_switch : {components : Bool} {word name : List ℕ} → IsMessage word → IsSwitchWord components word name → ⊥
message_switch {name = name} m s = m.no_dash name s.spelled

pub message_component : {components : Bool} {word name : List ℕ} → IsMessage word → IsComponent components word name → ⊥
message_component {name = name} m k = m.no_dash (45 ∷ name) k.spelled

pub switch_component : {components : Bool} {word name other : List ℕ} → IsSwitchWord components word name → IsComponent components word other → ⊥
switch_component {other = other} s k = s.no_component other k

pub switch_name : {components : Bool} {word name other : List ℕ} → IsSwitchWord components word name → IsSwitchWord components word other → name ≡ other
switch_name a b = cc (a.spelled, b.spelled)

pub component_name : {components : Bool} {word name other : List ℕ} → IsComponent components word name → IsComponent components word other → name ≡ other
component_name a b = cc (a.spelled, b.spelled)

pub folder_dash : {word : List ℕ} → IsFolder word → IsLoneDash word → ⊥
folder_dash (rest, e) d = apart_heads rest [] (sym e ∙ d)

pub message_dash : {word : List ℕ} → IsMessage word → IsLoneDash word → ⊥
message_dash m d = m.no_dash [] d

pub switch_dash : {components : Bool} {word name : List ℕ} → IsSwitchWord components word name → IsLoneDash word → ⊥
switch_dash s d = s.named (cc (s.spelled, d))

pub component_dash : {components : Bool} {word name : List ℕ} → IsComponent components word name → IsLoneDash word → ⊥
component_dash k d = cc (k.spelled, d)

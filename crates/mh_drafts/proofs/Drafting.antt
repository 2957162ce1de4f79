-- Drafts.
use Rattle.std.proofs.Common.{◌≡◌, ℕ, Some, None, Option, List, refl, sym, ◌∙◌, ap}
use Rattle.mail_headers.specs.Message.{body_of}
use Rattle.mh_drafts.specs.declared.fault.DraftFault.{DraftFault}
use Rattle.mh_drafts.specs.declared.fault.DraftFault.TheVariants.{Bad, Memory}
use Rattle.mh_drafts.specs.declared.item.Item.{Item}
use Rattle.mh_drafts.specs.declared.want.Want.{Want}
use Rattle.mh_drafts.specs.Drafts.{first_wrong_line, wrong_from, wrong_with}
use Rattle.mh_drafts.specs.Headers.{line_at, reserved_in}
use Rattle.mh_drafts.specs.Outcomes.{IsBodyOf, IsRefused, IsWrongBody}

line_is : (bytes : List ℕ) (o : Option (List ℕ)) → reserved_in bytes ≡ o → first_wrong_line bytes ≡ wrong_with bytes o
unfolding first_wrong_line
line_is bytes o e = ap (wrong_with bytes) e

pub field_wrong : (message bytes rest : List ℕ) (line : ℕ) → message ≡ bytes → reserved_in message ≡ Some rest → line ≡ line_at bytes rest → first_wrong_line bytes ≡ Some line
field_wrong message bytes rest line same e is = line_is bytes (Some rest) (ap reserved_in (sym same) ∙ e) ∙ ap Some (sym is)

pub body_wrong : (message bytes body : List ℕ) (fault : DraftFault) → message ≡ bytes → reserved_in message ≡ None → body ≡ body_of message → IsWrongBody bytes body fault → IsRefused bytes fault
body_wrong message bytes body (Bad line) same e is w =
    let here : body ≡ body_of bytes = is ∙ ap body_of same in
    line_is bytes None (ap reserved_in (sym same) ∙ e) ∙ ap (λ b. wrong_from (line_at bytes b) b) (sym here) ∙ w
body_wrong message bytes body Memory same e is w = tt

none_from : (first : ℕ) (body : List ℕ) (items : List Item) (wants : List Want) → IsBodyOf body items wants → wrong_from first body ≡ None
none_from first body items wants is = rw is.right refl

pub body_right : (message bytes body : List ℕ) (items : List Item) (wants : List Want) → message ≡ bytes → reserved_in message ≡ None → body ≡ body_of message → IsBodyOf body items wants → first_wrong_line bytes ≡ None
body_right message bytes body items wants same e is w =
    let here : body ≡ body_of bytes = is ∙ ap body_of same in
    line_is bytes None (ap reserved_in (sym same) ∙ e) ∙ ap (λ b. wrong_from (line_at bytes b) b) (sym here) ∙ none_from (line_at bytes body) body items wants w

use Rattle.std.proofs.Common.{◌++◌, ◌∷◌, [], ap, ◌∙◌, true, length}
use Rattle.base64.specs.Rfc4648.{encode, encoded_size}
use Rattle.base64.specs.declared.encode.EncodeSliceError.TheVariants.{OutputSliceTooSmall}
use Rattle.base64.proofs.EngineFacts.{encoded_prefix}
use Rattle.mime_codes.specs.Base64.{alphabet}
use Rattle.mime_codes.proofs.b64_encoding.put_line.Goals as goal

pub returns : goal.returns
returns c =
    let line = encoded_prefix (encode alphabet 61 true c.args.bytes.now) _ c.encode_slice.new.output (encoded_size (length c.args.bytes.now) true) c.in-Ok.len c.encode_slice.result OutputSliceTooSmall
    c.encode_slice.auto.output c.encode_slice.ensures.fits c.encode_slice.ensures.too_small c.in-Ok.is c.in-Ok.ensures.written in
    c.in_ok-push.ensures.items ∙ ap (λ x. x ++ 10 ∷ []) (c.in_ok-extend_from_slice.ensures.items ∙ ap (λ x. c.args.text.now.items ++ x) line)

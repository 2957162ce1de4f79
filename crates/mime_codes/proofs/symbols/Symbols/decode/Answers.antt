use Rattle.std.proofs.Common.{◌≡◌, ◌+◌, ◌-◌, ◌*◌, ◌/◌, refl, length, drop, map, ap, ◌∙◌, sym, arith, length-drop}
use Rattle.std.proofs.lemmas.List.{length-take-le, length-map}
use Rattle.mime_codes.specs.Base64.{sextet, octets}
use Rattle.mime_codes.proofs.Octets.{length-octets}
use Rattle.mime_codes.proofs.Filling.{filled, last_decoded, part_written}
use Rattle.mime_codes.proofs.symbols.Symbols.decode.Goals as goal

pub returns-clause-count : goal.returns-clause-count
returns-clause-count c =
    let size = sym (length-take-le c.self.inside.len c.self.inside.bytes (omega (arith, c.self.told, c.self.invariant.0))) ∙ ap length c.self.view_is in
    omega (arith, size, length-octets (map sextet c.args.self.now), length-map c.args.self.now sextet)

pub returns-clause-written : goal.returns-clause-written
returns-clause-written c =
    let len = c.self.inside.len in
    let size = sym (length-take-le len c.self.inside.bytes (omega (arith, c.self.told, c.self.invariant.0))) ∙ ap length c.self.view_is in
    let some : length c.fill.new.self ≡ (len + 3) / 4 * 4 - len =
    c.fill.ensures.len ∙ length-take-le ((len + 3) / 4 * 4 - len) (drop len c.self.inside.bytes) (omega (arith, length-drop len c.self.inside.bytes, c.self.told, c.self.invariant.0)) in
    let whole = filled c.args.self.now c.fill.new.self c.self.inside.bytes _ len ((len + 3) / 4 * 4) c.self.view_is (omega (arith, c.self.told, c.self.invariant.0)) (omega (arith, some)) refl in
    let decoded = last_decoded c.args.self.now c.fill.new.self _ c.decode_groups.new.bytes c.copy_from_slice.new.self len (sym size) whole some c.decode_groups.ensures c.copy_from_slice.ensures.after in
    part_written c.args.at (len * 3 / 4) c.args.into.now c.copy_from_slice.new.self (octets (map sextet c.args.self.now)) (omega (arith, size, c.requires))
    (ap length decoded ∙ length-octets (map sextet c.args.self.now) ∙ ap (λ n. n * 3 / 4) (length-map c.args.self.now sextet ∙ sym size)) decoded

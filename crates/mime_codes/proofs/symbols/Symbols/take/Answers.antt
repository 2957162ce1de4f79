use Rattle.std.proofs.Common.{◌++◌, length, filter, ap, ◌∙◌, sym, arith, subst}
use Rattle.std.proofs.lemmas.List.{length-take-le}
use Rattle.std.specs.List.{AllPass}
use Rattle.mime_codes.specs.Base64.{is_symbol}
use Rattle.mime_codes.proofs.Taking.{all_taken}
use Rattle.mime_codes.proofs.symbols.Symbols.take.Goals as goal

pub invariant_of-self : goal.invariant_of-self
invariant_of-self c =
    let size = sym (length-take-le c.self.inside.len c.self.inside.bytes (omega (arith, c.self.told, c.self.invariant.0))) ∙ ap length c.self.view_is in (
      omega (arith, size, c.requires, c.gather-self-inside.ensures.bound),
      subst (AllPass is_symbol) (sym c.gather-self-inside.ensures.value) (all_taken c.args.text.now _ c.self.invariant.1),
    )

pub returns : goal.returns
returns c = c.gather-self-inside.ensures.value ∙ ap (λ s. s ++ filter is_symbol c.args.text.now) c.self.view_is

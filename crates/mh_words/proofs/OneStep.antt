-- One step of the reading.
use Rattle.std.proofs.Common.{◌≡◌, ◌+◌, ℕ, List, [], ◌∷◌, Some, drop, sym, ◌∙◌, ap, subst}
use Rattle.mh_base.specs.declared.word.WordWhy.TheVariants.{Unknown, Ambiguous, NoValue}
use Rattle.mh_words.specs.declared.fault.WordFault.{WordFault}
use Rattle.mh_words.specs.declared.fault.WordFault.TheVariants.{Bad, Memory}
use Rattle.std.specs.Prelude.{Ok, Err, None}
use Rattle.mh_words.specs.declared.item.Item.TheVariants.{Folder, Message, Switch, Component}
use Rattle.mh_words.specs.declared.table.Kind.TheVariants.{Flag, Value}
use Rattle.mh_words.specs.declared.table.SwitchTable.{SwitchTable}
use Rattle.mh_words.specs.Lines.{IsWordAt}
use Rattle.mh_words.specs.Forms.{IsFolder, IsMessage, IsLoneDash, IsSwitchWord, IsComponent}
use Rattle.mh_words.specs.Switches.{IsSwitch, IsUnknown, IsAmbiguous}
use Rattle.mh_words.specs.Readings.{Takes, takes_folder, takes_message, takes_flag, takes_value, takes_component, IsWrong, is_lone_dash, is_unknown, is_ambiguous, lacks_value, lacks_component_value}
use Rattle.mh_words.specs.Steps.{IsValueAfter, IsStep}

module _ (table : SwitchTable) (words : List (List ℕ)) (place : ℕ) (word : List ℕ) (at : IsWordAt words place word) where
  -- a word and its value
  with_value : (v : List ℕ) → IsValueAfter words place (Ok v) → drop place words ≡ word ∷ v ∷ drop (place + 2) words
  with_value v e = at ∙ ap (λ ws. word ∷ ws) e

  -- a word with no value
  with_none : drop (place + 1) words ≡ [] → drop place words ≡ word ∷ []
  with_none e = at ∙ ap (λ ws. word ∷ ws) e

  pub folder_step : IsFolder word → Takes table place (drop place words) (Folder word place) (drop (place + 1) words) (place + 1)
  folder_step f = subst (λ ws. Takes table place ws (Folder word place) (drop (place + 1) words) (place + 1)) (sym at) (takes_folder f)

  pub message_step : IsMessage word → Takes table place (drop place words) (Message word place) (drop (place + 1) words) (place + 1)
  message_step f = subst (λ ws. Takes table place ws (Message word place) (drop (place + 1) words) (place + 1)) (sym at) (takes_message f)

  pub flag_step : (name : List ℕ) (index : ℕ) → IsSwitchWord table.components word name → IsSwitch table.switches name index Flag
      → Takes table place (drop place words) (Switch index None place) (drop (place + 1) words) (place + 1)
  flag_step name index f s = subst (λ ws. Takes table place ws (Switch index None place) (drop (place + 1) words) (place + 1)) (sym at) (takes_flag f s)

  pub value_step : (name : List ℕ) (index : ℕ) (v : List ℕ) → IsSwitchWord table.components word name → IsSwitch table.switches name index Value → IsValueAfter words place (Ok v)
      → Takes table place (drop place words) (Switch index (Some v) place) (drop (place + 2) words) (place + 2)
  value_step name index v f s e = subst (λ ws. Takes table place ws (Switch index (Some v) place) (drop (place + 2) words) (place + 2)) (sym (with_value v e)) (takes_value f s)

  pub component_step : (name v : List ℕ) → IsComponent table.components word name → IsValueAfter words place (Ok v)
      → Takes table place (drop place words) (Component name v place) (drop (place + 2) words) (place + 2)
  component_step name v f e = subst (λ ws. Takes table place ws (Component name v place) (drop (place + 2) words) (place + 2)) (sym (with_value v e)) (takes_component f)

  pub component_stops : (name : List ℕ) (fault : WordFault) → IsComponent table.components word name → IsValueAfter words place (Err fault) → IsStep table words place (Err fault)
  component_stops name (Bad bad why) f (at_place, reason, e) =
      (at_place, subst (λ y. IsWrong table (drop place words) y) (sym reason) (subst (λ ws. IsWrong table ws NoValue) (sym (with_none e)) (lacks_component_value f)))
  component_stops name Memory f e = tt

  pub value_stops : (name : List ℕ) (index : ℕ) (fault : WordFault) → IsSwitchWord table.components word name → IsSwitch table.switches name index Value → IsValueAfter words place (Err fault)
      → IsStep table words place (Err fault)
  value_stops name index (Bad bad why) f s (at_place, reason, e) =
      (at_place, subst (λ y. IsWrong table (drop place words) y) (sym reason) (subst (λ ws. IsWrong table ws NoValue) (sym (with_none e)) (lacks_value f s)))
  value_stops name index Memory f s e = tt

  pub dash_stops : IsLoneDash word → IsWrong table (drop place words) Unknown
  dash_stops d = subst (λ ws. IsWrong table ws Unknown) (sym at) (is_lone_dash d)

  pub unknown_stops : (name : List ℕ) → IsSwitchWord table.components word name → IsUnknown table.switches name → IsWrong table (drop place words) Unknown
  unknown_stops name f s = subst (λ ws. IsWrong table ws Unknown) (sym at) (is_unknown f s)

  pub ambiguous_stops : (name : List ℕ) → IsSwitchWord table.components word name → IsAmbiguous table.switches name → IsWrong table (drop place words) Ambiguous
  ambiguous_stops name f s = subst (λ ws. IsWrong table ws Ambiguous) (sym at) (is_ambiguous f s)

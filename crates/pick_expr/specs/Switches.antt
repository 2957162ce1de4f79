-- The switches of the command `pick`, by their places in its table.
use Rattle.std.specs.Prelude.{ℕ, ◌==◌, if◌then◌else◌}
use Rattle.pick_expr.specs.declared.switches.PickSwitch.{PickSwitch}
use Rattle.pick_expr.specs.declared.switches.PickSwitch.TheVariants.{And, Or, Not, Lbrace, Rbrace, From, To, Cc, Subject, Date, Search, Before, After, Datefield, Aside}

abbrev pub switch_at : ℕ → PickSwitch
switch_at i =
    if i == 0 then And else (if i == 1 then Or else (if i == 2 then Not else (if i == 3 then Lbrace
    else (if i == 4 then Rbrace else (if i == 5 then From else (if i == 6 then To else (if i == 7 then Cc
    else (if i == 8 then Subject else (if i == 9 then Date else (if i == 10 then Search else (if i == 11 then Before
    else (if i == 12 then After else (if i == 13 then Datefield
    else Aside)))))))))))))

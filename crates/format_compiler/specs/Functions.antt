-- The functions of formats (mh-format): their names, and what they take and give.
use Rattle.std.specs.Prelude.{ℕ, Bool, true, false, List, [], ◌∷◌, codes, Option, Some, None, bytes_eq, if◌then◌else◌}
use Rattle.format_compiler.specs.declared.function.ArgumentKind.{ArgumentKind}
use Rattle.format_compiler.specs.declared.function.ArgumentKind.TheVariants.{Nothing, Literal, LiteralOrNothing, Number, Component, Source, SourceOrNothing}
use Rattle.format_compiler.specs.declared.function.Function.{Function}
use Rattle.format_compiler.specs.declared.function.Function.TheVariants.{Msg, Size, Cur, Unseen, Width, Charleft, Timenow, Me, Num, Lit, Eq, Ne, Gt, Plus, Divide, Modulo, Match, Amatch, Strlen, Null, Nonnull, Zero, Nonzero, Void, Comp, Compval, Trim, Unquote, Decode, Putstr, Putstrf, Putnum, Putnumf, Putlit, Sec, Min, Hour, Mday, Mon, Year, Wday, Day, Weekday, Month, Lmonth, Tzone, Clock, Rclock, Tws, Nodate, Friendly, Addr, Pers, Note, Mbox, Host}

abbrev pub name_of : Function → List ℕ
name_of Msg = codes "msg"
name_of Size = codes "size"
name_of Cur = codes "cur"
name_of Unseen = codes "unseen"
name_of Width = codes "width"
name_of Charleft = codes "charleft"
name_of Timenow = codes "timenow"
name_of Me = codes "me"
name_of Num = codes "num"
name_of Lit = codes "lit"
name_of Eq = codes "eq"
name_of Ne = codes "ne"
name_of Gt = codes "gt"
name_of Plus = codes "plus"
name_of Divide = codes "divide"
name_of Modulo = codes "modulo"
name_of Match = codes "match"
name_of Amatch = codes "amatch"
name_of Strlen = codes "strlen"
name_of Null = codes "null"
name_of Nonnull = codes "nonnull"
name_of Zero = codes "zero"
name_of Nonzero = codes "nonzero"
name_of Void = codes "void"
name_of Comp = codes "comp"
name_of Compval = codes "compval"
name_of Trim = codes "trim"
name_of Unquote = codes "unquote"
name_of Decode = codes "decode"
name_of Putstr = codes "putstr"
name_of Putstrf = codes "putstrf"
name_of Putnum = codes "putnum"
name_of Putnumf = codes "putnumf"
name_of Putlit = codes "putlit"
name_of Sec = codes "sec"
name_of Min = codes "min"
name_of Hour = codes "hour"
name_of Mday = codes "mday"
name_of Mon = codes "mon"
name_of Year = codes "year"
name_of Wday = codes "wday"
name_of Day = codes "day"
name_of Weekday = codes "weekday"
name_of Month = codes "month"
name_of Lmonth = codes "lmonth"
name_of Tzone = codes "tzone"
name_of Clock = codes "clock"
name_of Rclock = codes "rclock"
name_of Tws = codes "tws"
name_of Nodate = codes "nodate"
name_of Friendly = codes "friendly"
name_of Addr = codes "addr"
name_of Pers = codes "pers"
name_of Note = codes "note"
name_of Mbox = codes "mbox"
name_of Host = codes "host"

-- what argument a function takes
abbrev pub kind_of : Function → ArgumentKind
kind_of Msg = Nothing
kind_of Size = Nothing
kind_of Cur = Nothing
kind_of Unseen = Nothing
kind_of Width = Nothing
kind_of Charleft = Nothing
kind_of Timenow = Nothing
kind_of Me = Nothing
kind_of Num = Number
kind_of Lit = LiteralOrNothing
kind_of Eq = Number
kind_of Ne = Number
kind_of Gt = Number
kind_of Plus = Number
kind_of Divide = Number
kind_of Modulo = Number
kind_of Match = Literal
kind_of Amatch = Literal
kind_of Strlen = Nothing
kind_of Null = SourceOrNothing
kind_of Nonnull = SourceOrNothing
kind_of Zero = SourceOrNothing
kind_of Nonzero = SourceOrNothing
kind_of Void = Source
kind_of Comp = Component
kind_of Compval = Component
kind_of Trim = SourceOrNothing
kind_of Unquote = SourceOrNothing
kind_of Decode = SourceOrNothing
kind_of Putstr = SourceOrNothing
kind_of Putstrf = SourceOrNothing
kind_of Putnum = SourceOrNothing
kind_of Putnumf = SourceOrNothing
kind_of Putlit = SourceOrNothing
kind_of Sec = Component
kind_of Min = Component
kind_of Hour = Component
kind_of Mday = Component
kind_of Mon = Component
kind_of Year = Component
kind_of Wday = Component
kind_of Day = Component
kind_of Weekday = Component
kind_of Month = Component
kind_of Lmonth = Component
kind_of Tzone = Component
kind_of Clock = Component
kind_of Rclock = Component
kind_of Tws = Component
kind_of Nodate = Component
kind_of Friendly = Component
kind_of Addr = Component
kind_of Pers = Component
kind_of Note = Component
kind_of Mbox = Component
kind_of Host = Component

-- whether a function sets the number or the text to its result
abbrev pub has_result : Function → Bool
has_result Msg = true
has_result Size = true
has_result Cur = true
has_result Unseen = true
has_result Width = true
has_result Charleft = true
has_result Timenow = true
has_result Me = true
has_result Num = true
has_result Lit = true
has_result Eq = true
has_result Ne = true
has_result Gt = true
has_result Plus = true
has_result Divide = true
has_result Modulo = true
has_result Match = true
has_result Amatch = true
has_result Strlen = true
has_result Null = true
has_result Nonnull = true
has_result Zero = true
has_result Nonzero = true
has_result Void = false
has_result Comp = true
has_result Compval = true
has_result Trim = true
has_result Unquote = true
has_result Decode = true
has_result Putstr = false
has_result Putstrf = false
has_result Putnum = false
has_result Putnumf = false
has_result Putlit = false
has_result Sec = true
has_result Min = true
has_result Hour = true
has_result Mday = true
has_result Mon = true
has_result Year = true
has_result Wday = true
has_result Day = true
has_result Weekday = true
has_result Month = true
has_result Lmonth = true
has_result Tzone = true
has_result Clock = true
has_result Rclock = true
has_result Tws = true
has_result Nodate = true
has_result Friendly = true
has_result Addr = true
has_result Pers = true
has_result Note = true
has_result Mbox = true
has_result Host = true

-- all functions
unfoldable pub every_function : List Function
every_function =
    Msg ∷ Size ∷ Cur ∷ Unseen ∷ Width ∷ Charleft ∷ Timenow ∷ Me ∷ Num ∷ Lit ∷ Eq ∷ Ne ∷ Gt ∷ Plus ∷ Divide ∷ Modulo
    ∷ Match ∷ Amatch ∷ Strlen ∷ Null ∷ Nonnull ∷ Zero ∷ Nonzero ∷ Void ∷ Comp ∷ Compval ∷ Trim ∷ Unquote ∷ Decode
    ∷ Putstr ∷ Putstrf ∷ Putnum ∷ Putnumf ∷ Putlit ∷ Sec ∷ Min ∷ Hour ∷ Mday ∷ Mon ∷ Year ∷ Wday ∷ Day ∷ Weekday
    ∷ Month ∷ Lmonth ∷ Tzone ∷ Clock ∷ Rclock ∷ Tws ∷ Nodate ∷ Friendly ∷ Addr ∷ Pers ∷ Note ∷ Mbox ∷ Host ∷ []

-- the first of these functions that has this name
abbrev pub named_among : List Function → List ℕ → Option Function
named_among [] name = None
named_among (f ∷ fs) name = if bytes_eq (name_of f) name then Some f else named_among fs name

-- the function of this name
abbrev pub function_named : List ℕ → Option Function
function_named = named_among every_function

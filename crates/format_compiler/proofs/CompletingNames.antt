-- The names of functions, up to where they are wrong.
use Rattle.std.proofs.Common.{◌≡◌, ℕ, ◌&&◌, not, Bool, true, false, List, [], ◌∷◌, ◌++◌, length, take, drop, Some, Ok, Err, refl, sym, ap, ◌∙◌}
use Rattle.std.specs.Prelude.{if◌then◌else◌, bytes_eq}
use Rattle.std.proofs.lemmas.List.{take-append-drop}
use Rattle.std.proofs.lemmas.Slice.Eq.{bytes_eq-Decides}
use Rattle.format_compiler.specs.declared.function.Function.{Function}
use Rattle.format_compiler.specs.declared.function.Function.TheVariants.{Msg, Size, Cur, Unseen, Width, Charleft, Timenow, Me, Num, Lit, Eq, Ne, Gt, Plus, Divide, Modulo, Match, Amatch, Strlen, Null, Nonnull, Zero, Nonzero, Void, Comp, Compval, Trim, Unquote, Decode, Putstr, Putstrf, Putnum, Putnumf, Putlit, Sec, Min, Hour, Mday, Mon, Year, Wday, Day, Weekday, Month, Lmonth, Tzone, Clock, Rclock, Tws, Nodate, Friendly, Addr, Pers, Note, Mbox, Host}
use Rattle.format_compiler.specs.Calls.{fitting, function_by, function_in, is_in_name}
use Rattle.format_compiler.specs.Functions.{every_function, function_named, has_result, name_of}
use Rattle.format_compiler.specs.Unfinished.{begins_name_among, is_begun_by, IsAll}
use Rattle.format_compiler.proofs.TwoParts.{each, EachIs, far}

-- the table has each function under its name, which ends where it should
pub record IsNamed (f : Function) : Type 0 where
  pub found : function_named (name_of f) ≡ Some f
  pub all : IsAll is_in_name (name_of f)

named : (f : Function) → IsNamed f
unfolding every_function
named Msg = record { found = refl; all = refl }
named Size = record { found = refl; all = refl }
named Cur = record { found = refl; all = refl }
named Unseen = record { found = refl; all = refl }
named Width = record { found = refl; all = refl }
named Charleft = record { found = refl; all = refl }
named Timenow = record { found = refl; all = refl }
named Me = record { found = refl; all = refl }
named Num = record { found = refl; all = refl }
named Lit = record { found = refl; all = refl }
named Eq = record { found = refl; all = refl }
named Ne = record { found = refl; all = refl }
named Gt = record { found = refl; all = refl }
named Plus = record { found = refl; all = refl }
named Divide = record { found = refl; all = refl }
named Modulo = record { found = refl; all = refl }
named Match = record { found = refl; all = refl }
named Amatch = record { found = refl; all = refl }
named Strlen = record { found = refl; all = refl }
named Null = record { found = refl; all = refl }
named Nonnull = record { found = refl; all = refl }
named Zero = record { found = refl; all = refl }
named Nonzero = record { found = refl; all = refl }
named Void = record { found = refl; all = refl }
named Comp = record { found = refl; all = refl }
named Compval = record { found = refl; all = refl }
named Trim = record { found = refl; all = refl }
named Unquote = record { found = refl; all = refl }
named Decode = record { found = refl; all = refl }
named Putstr = record { found = refl; all = refl }
named Putstrf = record { found = refl; all = refl }
named Putnum = record { found = refl; all = refl }
named Putnumf = record { found = refl; all = refl }
named Putlit = record { found = refl; all = refl }
named Sec = record { found = refl; all = refl }
named Min = record { found = refl; all = refl }
named Hour = record { found = refl; all = refl }
named Mday = record { found = refl; all = refl }
named Mon = record { found = refl; all = refl }
named Year = record { found = refl; all = refl }
named Wday = record { found = refl; all = refl }
named Day = record { found = refl; all = refl }
named Weekday = record { found = refl; all = refl }
named Month = record { found = refl; all = refl }
named Lmonth = record { found = refl; all = refl }
named Tzone = record { found = refl; all = refl }
named Clock = record { found = refl; all = refl }
named Rclock = record { found = refl; all = refl }
named Tws = record { found = refl; all = refl }
named Nodate = record { found = refl; all = refl }
named Friendly = record { found = refl; all = refl }
named Addr = record { found = refl; all = refl }
named Pers = record { found = refl; all = refl }
named Note = record { found = refl; all = refl }
named Mbox = record { found = refl; all = refl }
named Host = record { found = refl; all = refl }

-- this function's name stands here, in a test only if it has a result
pub name_reads : (in_test : Bool) (name : List ℕ) (f : Function) → EachIs is_in_name name → function_named name ≡ Some f → (in_test && not (has_result f)) ≡ false
    → (c : ℕ) (text : List ℕ) → is_in_name c ≡ false → function_in in_test (name ++ c ∷ text) ≡ Ok (f, c ∷ text)
name_reads in_test name f each found fits c text ends =
    let s = far is_in_name name (c ∷ text) each ends in
    (λ i. function_by in_test (name ++ c ∷ text) (s.taken i) (s.dropped i))
    ∙ ap (fitting in_test (name ++ c ∷ text) (c ∷ text)) found
    ∙ ap (λ b. if b then Err (name ++ c ∷ text) else Ok (f, c ∷ text)) fits

pub own_name_reads : (in_test : Bool) (f : Function) → (in_test && not (has_result f)) ≡ false → (c : ℕ) (text : List ℕ) → is_in_name c ≡ false
    → function_in in_test (name_of f ++ c ∷ text) ≡ Ok (f, c ∷ text)
own_name_reads in_test f fits c text ends =
    let n = named f in
    name_reads in_test (name_of f) f (each is_in_name (name_of f) n.all) n.found fits c text ends

-- a function whose name begins so
pub record Begun (in_test : Bool) (name : List ℕ) : Type 0 where
  pub function : Function
  pub more : List ℕ
  pub whole : name ++ more ≡ name_of function
  pub fits : (in_test && not (has_result function)) ≡ false

both : (a b : Bool) → (a && b) ≡ true → (a ≡ true) × (b ≡ true)
both true true is = (refl, refl)
both true false is = cc
both false b is = cc

turned : (b : Bool) → not b ≡ true → b ≡ false
turned true is = cc
turned false is = refl

begun_by : (in_test : Bool) (name : List ℕ) (f : Function) → is_begun_by in_test name f ≡ true → Begun in_test name
begun_by in_test name f is =
    let b = both (bytes_eq (take (length name) (name_of f)) name) (not (in_test && not (has_result f))) is in
    let same = bytes_eq-Decides (take (length name) (name_of f)) name in
    record {
      function = f;
      more = drop (length name) (name_of f);
      whole = ap (λ z. z ++ drop (length name) (name_of f)) (sym (same.0 b.0)) ∙ take-append-drop (length name) (name_of f);
      fits = turned (in_test && not (has_result f)) b.1;
    }

pub begun_among : (in_test : Bool) (name : List ℕ) (fs : List Function) → begins_name_among in_test name fs ≡ true → Begun in_test name
begun_among in_test name [] is = cc
begun_among in_test name (f ∷ fs) is = choose (is_begun_by in_test name f) refl (begun_among in_test name fs)
  where
    choose : (b : Bool) → is_begun_by in_test name f ≡ b → (begins_name_among in_test name fs ≡ true → Begun in_test name) → Begun in_test name
    choose true e on = begun_by in_test name f e
    choose false e on = on (sym (ap (λ b. if b then true else begins_name_among in_test name fs) e) ∙ is)

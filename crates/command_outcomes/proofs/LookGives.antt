-- What a command finds to write of messages, by the outside file that is there.
use Rattle.std.proofs.Common.{◌≡◌, ℕ, Bool, true, false, List, [], Option, Some, None, Result, Ok, Err, length, refl, sym, ◌∙◌, ap, subst}
use Rattle.std.specs.Prelude.{nat_lt, if◌then◌else◌}
use Rattle.format_compiler.specs.Grammar.{Format}
use Rattle.folder_files.specs.Steps.{read_file_answer}
use Rattle.folder_files.specs.declared.place.FilePath.{FilePath}
use Rattle.folder_files.specs.declared.place.Place.{Place}
use Rattle.folder_files.specs.declared.refusal.Refusal.{Refusal}
use Rattle.folder_files.specs.declared.step.Answer.{Answer}
use Rattle.folder_files.specs.declared.step.Answer.TheVariants as answer
use Rattle.file_plans.specs.Asking.{read_file, reading_of}
use Rattle.file_plans.specs.Contents.{Contents, mailbox_in}
use Rattle.file_plans.specs.Giving.{Gives}
use Rattle.file_plans.specs.Plan.{Hand, Return, after, ask, bind, lifted, ◌>>=◌}
use Rattle.file_plans.specs.Views.{FileTells, Hidden, View, by_view, fits_view, view_after}
use Rattle.step_plans.specs.declared.command_fault.CommandFault.{CommandFault}
use Rattle.step_plans.specs.declared.command_fault.CommandFault.TheVariants as fault
use Rattle.command_stages.specs.Texts.{Commanded}
use Rattle.command_stages.specs.Works.{Work, refused_at}
use Rattle.message_lines.specs.Finding.{LIMIT_FORMAT, file_read, format_by, format_in, long_format}
use Rattle.message_lines.specs.MessageText.{Sight, Writing, formed}
use Rattle.message_lines.specs.declared.standing.Standing.{Standing}
use Rattle.mh_looks.proofs.Folders.{IsFresh}
use Rattle.command_plans.specs.Looking.{InFile, Known, Telling, look_found, written_with}
use Rattle.command_outcomes.specs.Outcomes.{format_outside, writing, written_there}
use Rattle.command_plans.proofs.LookFound.{file_refuses, file_step}

-- reading a file gives its format, or the refusal
outside_format : (path : FilePath) (o : Option (List ℕ)) → format_by path (reading_of (read_file_answer LIMIT_FORMAT o)) ≡ format_outside path o
outside_format path None = refl
outside_format path (Some text) = go (nat_lt LIMIT_FORMAT (length text))
  where
    go : (b : Bool) → format_by path (reading_of (if b then answer.Long (length text) else answer.Content text)) ≡ (if b then Err (long_format (length text)) else format_in text)
    go true = refl
    go false = refl

outside_refuses : (path : FilePath) (o : Option (List ℕ)) (e : CommandFault) → format_outside path o ≡ Err e → (r : Refusal) × (e ≡ fault.Refused r)
outside_refuses path o e is = file_refuses path (reading_of (read_file_answer LIMIT_FORMAT o)) e (outside_format path o ∙ is)

-- all was seen so but of outside files
pub record LooksAlike (v z : View) : Type 0 where
  pub contents : z.contents ≡ v.contents
  pub names : z.seen.names ≡ v.seen.names
  pub places : z.seen.places ≡ v.seen.places
  pub numbers : z.numbers ≡ v.numbers
  pub met : z.met ≡ v.met

alike_self : (v : View) → LooksAlike v v
alike_self v = record { contents = refl; names = refl; places = refl; numbers = refl; met = refl }

alike_file : (v : View) (path : FilePath) (a : Answer) → LooksAlike v (view_after v (file_step path) a)
alike_file v path a = record { contents = refl; names = refl; places = refl; numbers = refl; met = refl }

pub fresh_alike : (v z : View) (p : Place) → LooksAlike v z → IsFresh v p → IsFresh z p
fresh_alike v z p l f = record {
  place = ap (λ g. g p) l.places ∙ f.place;
  names = λ x standing. ap (λ g. g p x) l.names ∙ f.names x standing;
  unmet = λ x. ap (λ g. g p x) l.met ∙ f.unmet x;
}

-- the answer is what is there
file_told : (alone : Bool) (v : View) (path : FilePath) (a : Answer) → (alone ≡ false → v.seen.files path ≡ Hidden) → fits_view alone v (file_step path) a → a ≡ read_file_answer LIMIT_FORMAT (v.contents.outside path)
file_told true v path a hidden f = f.0
file_told false v path a hidden f = subst (λ s. FileTells s (v.contents.outside path) LIMIT_FORMAT a) (hidden refl) f.0

module _ (alone : Bool) (c : Contents) (v : View) (h : Hand) (same : v.contents ≡ c) (hidden : alone ≡ false → (f : FilePath) → v.seen.files f ≡ Hidden)
    (work : (Standing → Writing) → Work CommandFault) (act : (Standing → Writing) → Commanded Unit) (Q : Work CommandFault → View → Hand → List ℕ → Result Unit CommandFault → Type 0)
    (refused : (e : CommandFault) (r : Refusal) (z : View) (j : Hand) (left : List ℕ) → e ≡ fault.Refused r → left ≡ [] → z.contents ≡ c → Q (refused_at (mailbox_in c) e) z j left (Err e))
    (acts : (spoken : Standing → Writing) (z : View) → LooksAlike v z → Gives (by_view alone) z h (work spoken).text (act spoken) (Q (work spoken))) where
  abbrev written : Result (Standing → Writing) CommandFault → Work CommandFault
  written r = writing (mailbox_in c) work r

  by_value : (z : View) → LooksAlike v z → (path : FilePath) (sight : Sight) (o : Option (List ℕ)) (value : Result Format CommandFault) → format_outside path o ≡ value
      → Gives (by_view alone) z h (written (written_with sight value)).text (bind (after (λ f. Return (Ok (formed f sight))) value) (after act)) (Q (written (written_with sight value)))
  unfolding Gives bind
  by_value z alike path sight o (Ok f) is = acts (formed f sight) z alike
  by_value z alike path sight o (Err e) is =
      let r = outside_refuses path o e is in
      refused e r.0 z h [] r.1 refl (alike.contents ∙ same)

  -- the work goes on by what is written
  pub look_gives : (t : Telling) → Gives (by_view alone) v h (written (written_there (mailbox_in c) t)).text (look_found t >>= act) (Q (written (written_there (mailbox_in c) t)))
  unfolding Gives look_found file_read read_file ask lifted bind ◌>>=◌ mailbox_in
  look_gives (Known spoken) = acts spoken v (alike_self v)
  look_gives (InFile path sight) = λ a row live fits. by a (file_told alone v path a (λ beside. hidden beside path) fits)
    where
      there : Result Format CommandFault
      there = format_outside path (c.outside path)

      by : (a : Answer) → a ≡ read_file_answer LIMIT_FORMAT (v.contents.outside path)
          → Gives (by_view alone) (view_after v (file_step path) a) h (written (written_with sight there)).text (bind (after (λ f. Return (Ok (formed f sight))) (format_by path (reading_of a))) (after act)) (Q (written (written_with sight there)))
      by a is =
          let e : there ≡ format_by path (reading_of a) = sym (ap (λ x. format_by path (reading_of x)) (is ∙ ap (λ d. read_file_answer LIMIT_FORMAT (d.outside path)) same) ∙ outside_format path (c.outside path)) in
          subst (λ value. Gives (by_view alone) (view_after v (file_step path) a) h (written (written_with sight there)).text (bind (after (λ f. Return (Ok (formed f sight))) value) (after act)) (Q (written (written_with sight there)))) e
          (by_value (view_after v (file_step path) a) (alike_file v path a) path sight (c.outside path) there refl)

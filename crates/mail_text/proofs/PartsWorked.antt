-- Some values and what they show.
use Rattle.std.proofs.Common.{◌≡◌, true, false, [], ◌∷◌, refl, List}
use Rattle.std.specs.Prelude.{codes}
use Rattle.mail_text.specs.AddressParts.{Part, Shows}
use Rattle.mail_text.specs.AddressParts.QuotedItem.{Character, Protected}
use Rattle.mail_text.specs.AddressParts.CommentText.{Ends, HasCharacter, HasProtected, HasComment}
use Rattle.mail_text.specs.AddressParts.Stop.{AtItem, AtBackslash}
use Rattle.mail_text.specs.AddressParts.UnclosedText.{Stops, StopsInComment}
use Rattle.mail_text.specs.AddressParts.Part.{Plain, Quoted, UnclosedQuoted, Comment, UnclosedComment, Bracketed}

closed : {ps : List Part} → false ≡ true → ps ≡ []
closed e = cc e

comma_in_quotes : Shows (codes "\"a,\\\"\" (p) <x@y>, z") (record { pers = codes "a,\\\""; mbox = codes "x"; host = codes "y"; note = codes "p" })
comma_in_quotes = (
  Quoted (Character 97 refl ∷ Character 44 refl ∷ Protected 34 ∷ []) ∷ Plain 32 refl ∷ Comment (HasCharacter 112 refl Ends) ∷ Plain 32 refl ∷ Bracketed (codes "x@y") refl ∷ Plain 44 refl ∷ Plain 32 refl ∷ Plain 122 refl ∷ [],
  (refl, (closed, (closed, (closed, (closed, (closed, (closed, (closed, (closed, tt))))))))),
  refl,
)

comment_in_comment : Shows (codes "(a (b\\)) c) x@y@z") (record { pers = []; mbox = codes "x@y"; host = codes "z"; note = codes "a (b\\)) c" })
comment_in_comment = (
  Comment (HasCharacter 97 refl (HasCharacter 32 refl (HasComment (HasCharacter 98 refl (HasProtected 41 Ends)) (HasCharacter 32 refl (HasCharacter 99 refl Ends))))) ∷ Plain 32 refl ∷ Plain 120 refl ∷ Plain 64 refl ∷ Plain 121 refl ∷ Plain 64 refl ∷ Plain 122 refl ∷ [],
  (refl, (closed, (closed, (closed, (closed, (closed, (closed, (closed, tt)))))))),
  refl,
)

unclosed_comment : Shows (codes "x ( a (b, c\\") (record { pers = []; mbox = codes "x"; host = []; note = codes "a (b, c\\" })
unclosed_comment = (
  Plain 120 refl ∷ Plain 32 refl ∷ UnclosedComment (StopsInComment (HasCharacter 32 refl (HasCharacter 97 refl (HasCharacter 32 refl Ends))) (Stops (HasCharacter 98 refl (HasCharacter 44 refl (HasCharacter 32 refl (HasCharacter 99 refl Ends)))) AtBackslash)) ∷ [],
  (refl, (closed, (closed, (λ e. refl, tt)))),
  refl,
)

unclosed_quotes : Shows (codes "a\"b, c") (record { pers = []; mbox = codes "a\"b, c"; host = []; note = [] })
unclosed_quotes = (
  Plain 97 refl ∷ UnclosedQuoted (Character 98 refl ∷ Character 44 refl ∷ Character 32 refl ∷ Character 99 refl ∷ []) AtItem ∷ [],
  (refl, (closed, (λ e. refl, tt))),
  refl,
)

-- What the code's encoded words show.
use Rattle.mail_text.specs.declared.encoded_word.EncodedWord.{EncodedWord}
use Rattle.mail_text.specs.EncodedWords.{WordText}

abbrev pub word_text : EncodedWord → WordText
word_text w = record { charset = w.charset; encoding = w.encoding; text = w.text.now; behind = w.behind.now }

-- A message with two parts, worked out by hand.
use Rattle.std.proofs.Common.{◌≡◌, ℕ, List, [], ◌∷◌, true, false, Some, codes, drop, length, map, replicate, ap, refl}
use Rattle.std.specs.Fmt.{digits}
use Rattle.std.specs.Str.{chars, is_utf8}
use Rattle.std.specs.Str.Lossy.{utf8_valid_len}
use Rattle.mail_text.specs.Encodings.{q_behind}
use lib.Utf8.{encode}
use Rattle.mail_headers.specs.Fields.{field_in, fields_of}
use Rattle.mail_headers.specs.Lines.{folded_len, without_end}
use Rattle.mail_headers.specs.Message.{rest_of}
use Rattle.mail_headers.specs.Unfolding.{joined, unfolded}
use Rattle.mail_text.specs.ShownBytes.{shown}
use Rattle.mail_text.specs.EncodedWords.{decoded, first_word}
use Rattle.mime_codes.specs.Base64.{octets}
use Rattle.mime_codes.specs.QuotedPrintable.{decoded_behind}
use Rattle.mime_tree.specs.BoundaryLines.{line_len, lines, mark_of}
use Rattle.mime_tree.specs.ContentTypes.{boundary_of, is_digest, is_message, is_multipart, param_value, type_in, type_of_message}
use Rattle.mime_tree.specs.Encodings.{encoding_named}
use Rattle.mime_tree.specs.Gaps.{behind_gap_at}
use Rattle.mime_tree.specs.Kids.{kids_of}
use Rattle.mime_tree.specs.Params.{params_in}
use Rattle.mime_tree.specs.Pieces.{section}
use Rattle.mime_tree.specs.Tokens.{closing, unprotected_at}
use Rattle.mime_tree.specs.declared.odd.Odd.TheVariants.{None as nothing, Unclosed}
use Rattle.unicode_width.specs.Width.{char_width}
use Rattle.line_rows.specs.Columns.{fit}
use Rattle.part_rows.specs.Choices.{first_missing, listed, stored}
use Rattle.part_rows.specs.FileNames.{file_of, files_of, line_for, name_of}
use Rattle.part_rows.specs.PartViews.{parts_at, parts_of}
use Rattle.part_rows.specs.Rows.{header, part_row, row_of, rows_of}
use Rattle.mh_base.specs.Characters.{words}

abbrev message : List ℕ
message =
    codes "Content-Type: multipart/mixed; boundary=x\n\n--x\nContent-Type: application/octet-stream\nContent-Transfer-Encoding: base64\n\nSGVsbG8h\nQQ\n--x\n\nhi\n"

-- the line above the rows
told_header : header ≡ codes " msg part    type/subtype                 size description\n"
unfolding header row_of fit char_width encode
told_header = refl

-- the parts, which have no descriptions: one that is not closed, of 98 bytes, one in base64, and one that names no type
told_parts : parts_of message ≡
    record { path = []; kind = codes "multipart"; subtype = codes "mixed"; description = []; odd = Unclosed; is_leaf = false; content = drop 43 message }
    ∷ record { path = 1 ∷ []; kind = codes "application"; subtype = codes "octet-stream"; description = []; odd = nothing; is_leaf = true; content = codes "Hello!A" }
    ∷ record { path = 2 ∷ []; kind = codes "text"; subtype = codes "plain"; description = []; odd = nothing; is_leaf = true; content = codes "hi\n" }
    ∷ []
unfolding parts_at type_of_message type_in unfolded joined fields_of folded_len field_in without_end rest_of behind_gap_at params_in closing unprotected_at shown chars kids_of is_multipart is_message is_digest boundary_of param_value lines mark_of line_len section encoding_named octets decoded_behind utf8_valid_len is_utf8 encode
told_parts = refl

-- their rows
told_rows : rows_of 5 [] message ≡
    codes "   5 -       multipart/mixed                98 [unclosed]\n"
    ∷ codes "   5 1       application/octet-stream        7\n"
    ∷ codes "   5 2       text/plain                      3\n"
    ∷ []
unfolding row_of fit char_width encode digits
told_rows = ap (λ parts. map (part_row 5) (listed [] parts)) told_parts

-- of the leaves' files
told_files : files_of 5 [] message ≡
    record { name = codes "5.1.octet-stream"; content = codes "Hello!A"; line = codes "storing message 5 part 1 as file 5.1.octet-stream\n" }
    ∷ record { name = codes "5.2.plain"; content = codes "hi\n"; line = codes "storing message 5 part 2 as file 5.2.plain\n" }
    ∷ []
unfolding name_of line_for encode digits
told_files = ap (λ parts. map (file_of 5) (stored [] parts)) told_parts

-- the second part is told of once, and behind the root, whatever the order of the paths
named_rows : rows_of 5 ((2 ∷ []) ∷ [] ∷ (2 ∷ []) ∷ []) message ≡
    codes "   5 -       multipart/mixed                98 [unclosed]\n"
    ∷ codes "   5 2       text/plain                      3\n"
    ∷ []
unfolding row_of fit char_width encode digits
named_rows = ap (λ parts. map (part_row 5) (listed ((2 ∷ []) ∷ [] ∷ (2 ∷ []) ∷ []) parts)) told_parts

-- there is no third
third_missing : first_missing ((1 ∷ []) ∷ (3 ∷ []) ∷ (1 ∷ 1 ∷ []) ∷ []) (parts_of message) ≡ Some (3 ∷ [])
third_missing = ap (first_missing ((1 ∷ []) ∷ (3 ∷ []) ∷ (1 ∷ 1 ∷ []) ∷ [])) told_parts

-- a number that is wider than its column, and a part with a description about which something is odd
described : rows_of 123456 [] (codes "Content-Type: multipart/x-much-longer-than-its-column\nContent-Description: two \t=?us-ascii?q?words?=\n\nhi\n")
    ≡ codes "123456 -       multipart/x-much-longer-        3 two words [no boundary]\n" ∷ []
unfolding row_of fit char_width encode digits parts_at type_of_message type_in unfolded joined fields_of folded_len field_in without_end rest_of behind_gap_at params_in closing unprotected_at shown chars kids_of is_multipart is_message is_digest boundary_of param_value lines mark_of line_len section encoding_named octets decoded_behind utf8_valid_len is_utf8 words decoded first_word q_behind
described = refl

-- bytes of a subtype that don't stay, and a name that is cut
told_name : name_of 7 (1 ∷ 12 ∷ []) (codes "a/b c+*") ≡ codes "7.1.12.a_b_c+_"
unfolding name_of encode digits
told_name = refl

cut_name : length (name_of 7 [] (replicate 300 97)) ≡ 255
unfolding name_of encode digits
cut_name = refl

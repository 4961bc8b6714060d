-- What reading another line makes of a reader.
use Rattle.std.proofs.Common.{◌≡◌, ℕ, List, [], ◌∷◌, Some, Ok, Err, refl, ap, ◌∙◌}
use Rattle.iio_text.specs.Words.{words_of, is_space, IsFirstWord, from_word}
use Rattle.iio_text.specs.Lines.{words_of_line}
use Rattle.iio_desc.specs.declared.keywords.Keyword.{Keyword}
use Rattle.iio_desc.specs.declared.reader.DescFault.{DescFault}
use Rattle.iio_desc.specs.declared.reader.DescFault.TheVariants.{Line, Mem}
use Rattle.iio_desc.specs.DescFault.{Locates}
use Rattle.iio_desc.specs.DescReader.{Reader, after_line, read_lines}
use Rattle.iio_desc.specs.Lines as line
use Rattle.iio_desc.specs.PartialDesc.{PartialDesc}
use Rattle.iio_desc.proofs.WordLemmas.{from_second_word_is}

-- a line by its first word
pub after_line-first : (d : PartialDesc) (text word rest : List ℕ) (k : Keyword) → words_of_line text ≡ Ok (word ∷ words_of is_space rest)
    → IsFirstWord is_space text word rest
    → line.keyword_of word ≡ Some k → line.after_line d text ≡ line.keyword_line d k (words_of is_space rest) (from_word rest)
after_line-first d text word rest k words first known = rw (words, known, from_second_word_is text word rest first) refl

-- a fault stays
pub read_lines-fault : (fault : DescFault) (lines : List (List ℕ)) → read_lines (Err fault) lines ≡ Err fault
read_lines-fault fault [] = refl
read_lines-fault fault (text ∷ lines) = read_lines-fault fault lines

pub located : (fault : DescFault) (reader : Reader) (text : List ℕ) (lines : List (List ℕ)) → Locates fault (after_line reader text)
    → Locates fault (read_lines reader (text ∷ lines))
located (Line n why) reader text lines h = ap (λ (r : Reader). read_lines r lines) h ∙ read_lines-fault (Line n why) lines
located Mem reader text lines h = tt

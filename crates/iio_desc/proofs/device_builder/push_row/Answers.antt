use Rattle.std.proofs.Common.{◌≡◌, ◌+◌, ℕ, ℤ, List, length, vec_len, drop, Ok, sym, ◌∙◌, rules, arith, length-drop}
use Rattle.std.proofs.lemmas.Int.{to_z-of_z}
use mir.Val.{SFits}
use mir.Syntax.{w64}
use Rattle.iio_text.specs.Words.{words_of, is_space}
use Rattle.iio_desc.specs.DeviceLines.{row_of}
use Rattle.iio_desc.proofs.RowLemmas.{reads_row, counted_row-right, counted_row-wrong}
use Rattle.iio_desc.proofs.device_builder.push_row.Goals as goal
use Rattle.iio_desc.proofs.device_builder.push_row.Goals.{in-Err, in_default, in_default-2}

pub returns-in-Ok-clause-ok : goal.returns-in-Ok-clause-ok
returns-in-Ok-clause-ok c =
    let ws : List (List ℕ) = words_of is_space c.args.words.now in
    let new : List ℤ = c.read_row.new.values.items in
    let m : ℤ = c.in-Ok.moment in
    let fits : SFits w64 m = search rules in
    let read : row_of c.args.moments.now ws ≡ Ok (m, drop (vec_len c.args.values.now) new) = c.in-Ok.ensures.ok in
    let row = reads_row c.args.moments.now ws m (drop (vec_len c.args.values.now) new) read in
    let size : length ws ≡ c.args.width + 1 =
    omega (arith, row.size, length-drop (vec_len c.args.values.now) new, c.len.ensures, c.len-start.ensures, c.if-len-start.true, c.read_row.new.values.ok.0) in
    simp to_z-of_z (counted_row-right c.args.width c.args.moments.now ws size ∙ read)

pub returns-clause-err : goal.returns-clause-err
returns-clause-err c =
    let ws : List (List ℕ) = words_of is_space c.args.words.now in
    elim c.match-read_row.branch [
      | in-Err w ↦
          let size : length ws ≡ c.args.width + 1 = sym w.count_words.ensures ∙ w.if-count_words-width.true in
          rw (w.row-is, counted_row-right c.args.width c.args.moments.now ws size) w.in-Err.ensures.err
      | in_default w ↦
          let row = reads_row c.args.moments.now ws _ _ w.in-Ok.ensures.ok in
          let size : ¬ (length ws ≡ c.args.width + 1) =
          λ same. w.if-len-start.false
          (omega (
            arith,
            same,
            row.size,
            length-drop (vec_len c.args.values.now) c.read_row.new.values.items,
            w.len.ensures,
            c.len-start.ensures,
            c.read_row.new.values.ok.0,
          )) in
          rw w.row-is (counted_row-wrong c.args.width c.args.moments.now ws size)
      | in_default-2 w ↦
          let size : ¬ (length ws ≡ c.args.width + 1) = λ same. w.if-count_words-width.false (w.count_words.ensures ∙ same) in
          rw w.row-is (counted_row-wrong c.args.width c.args.moments.now ws size)
    ]

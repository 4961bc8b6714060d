use Rattle.std.proofs.Common.{◌∙◌, ap, sym, not}
use Rattle.std.specs.Prelude.{codes, string_bytes}
use Rattle.std.specs.Str.{bytes_eq}
use Rattle.iiod_readdev.specs.Words.{amount_of}
use Rattle.iiod_readdev.proofs.WordLaws.{says_six}
use Rattle.iiod_readdev.proofs.words.read_words.Goals as goal

pub returns-clause-found : goal.returns-clause-found
returns-clause-found c = record {
  samples = string_bytes c.samples-item.result;
  scans = string_bytes c.scans-item.result;
  is_samples = sym (c.in_ok-samples.ensures.value ∙ ap amount_of c.as_str-2.ensures.value);
  is_scans = sym (c.in_ok-scans.ensures.value ∙ ap amount_of c.as_str-3.ensures.value);
  words_are =
      says_six c.args.words.now c.word-item.result c.address-item.result c.device-item.result c.samples-item.result c.mask-item.result c.scans-item.result
      (codes "readdev") c.as_str-4.result.now c.as_bytes.result.now c.as_bytes-2.result.now c.ne.result
      c.in-len6.len_at_least c.in-len6.len_below c.word-item.is c.address-item.is c.device-item.is c.samples-item.is c.mask-item.is c.scans-item.is
      (c.ne.ensures ∙ ap (λ bs. not (bytes_eq bs (codes "readdev"))) c.as_str.ensures.value) c.if-ne.false c.as_str-4.ensures.value c.as_bytes.ensures.value
      c.as_bytes-2.ensures.value;
}

-- What says a command by the rules means that command.
use Rattle.std.proofs.Common.{◌≡◌, ℕ, suc, ◌≤◌, Bool, true, false, ◌&&◌, not, List, [], ◌∷◌, map, length, ℤ, pos, negsuc, Option, Some, eqb, nat_lt, nat_le, refl, sym, ◌∙◌, ap, subst, arith, rules, ◌==◌}
use Rattle.std.specs.List.{list_all, AllZip, All, AllByRecursion, join_with_byte}
use Rattle.std.specs.Option.{option_and_then, option_map}
use Rattle.std.proofs.lemmas.Bool.{and_from, and_parts}
use Rattle.std.proofs.lemmas.Bool.Decides.{nat_tests}
use Rattle.std.proofs.lemmas.List.Elements.{All-from_recursion}
use Rattle.std.proofs.lemmas.List.Folds.{list_all-append}
use Rattle.std.proofs.lemmas.List.Splits.{slice_split_at, slice_split_none}
use Rattle.element.specs.declared.kind.Kind.{Kind}
use Rattle.element.specs.declared.kind.Kind.TheVariants.{Sound as SoundKind, Mark as MarkKind}
use Rattle.script.specs.Said.{Said, Format, Mount, Arm, Begin, Sound, Mark, End, Withdraw, Play, Save, Cut, Fuse}
use Rattle.script.specs.Numbers.{is_digit, is_numeral, value, natural, negative, sample, byte}
use Rattle.script.specs.Meaning.{each, kind, kinds, command, words, is_plain, meaning}
use Rattle.script.specs.Grammar.{Field, Number, Sample, Letters, letter, Writes, IsWord, byte_field, name, fields, Says}

-- numbers
natural_reads : (most : ℕ) (word : List ℕ) (n : ℕ) → n ≤ most → Writes word n → natural most word ≡ Some n
natural_reads most word n small w =
    let fits : nat_le (value word) most ≡ true = grind (arith, nat_tests) in
    let test : (is_numeral word && nat_le (value word) most) ≡ true = and_from _ _ w.0 fits in
    rw test (ap (λ v. Some v) w.1)

field_reads : (least most n : ℕ) (word : List ℕ) → IsWord (Number least most n) word → natural most word ≡ Some n
field_reads least most n word w = natural_reads most word n w.1 w.2

negative_reads : (n : ℕ) → negative (suc n) ≡ Some (negsuc n)
negative_reads n = grind (arith, nat_tests)

sample_reads : (z : ℤ) (word : List ℕ) → IsWord (Sample z) word → sample word ≡ Some z
sample_reads (pos n) [] w = absurd (grind (arith, nat_tests))
sample_reads (pos n) (digit ∷ digits) w =
    let e = natural_reads 32767 (digit ∷ digits) n w.0 w.1 in
    let other : eqb digit 45 ≡ false = grind (arith, nat_tests) in
    rw other (ap (option_map pos) e)
sample_reads (negsuc n) word w =
    let e = natural_reads 32768 w.1 (suc n) (omega arith) w.3 in
    subst (λ v. sample v ≡ Some (negsuc n)) (sym w.2) (ap (option_and_then negative) e ∙ negative_reads n)

-- each item of a list
each_reads : {B : Type 0} (read : List ℕ → Option B) (field : B → Field) → ((x : B) (word : List ℕ) → IsWord (field x) word → read word ≡ Some x) → (xs : List B) (words : List (List ℕ)) → AllZip IsWord (map field xs) words → each read words ≡ Some xs
each_reads read field reads [] [] w = refl
each_reads read field reads [] (word ∷ words) w = absurd w
each_reads read field reads (x ∷ xs) [] w = absurd w
each_reads read field reads (x ∷ xs) (word ∷ words) w =
    rw (reads x word w.0, each_reads read field reads xs words w.1) refl

kind_reads : (k : Kind) → kind (letter k) ≡ Some k
kind_reads SoundKind = refl
kind_reads MarkKind = refl

kinds_each : (ks : List Kind) → each kind (map letter ks) ≡ Some ks
kinds_each [] = refl
kinds_each (k ∷ ks) = rw (kind_reads k, kinds_each ks) refl

kinds_reads : (ks : List Kind) (word : List ℕ) → IsWord (Letters ks) word → kinds word ≡ Some ks
kinds_reads [] word w = absurd (omega arith)
kinds_reads (k ∷ ks) word w =
    let some : nat_lt 0 (length (map letter (k ∷ ks))) ≡ true = grind (arith, nat_tests) in
    subst (λ v. kinds v ≡ Some (k ∷ ks)) (sym w.1) (rw some (kinds_each (k ∷ ks)))

-- the words of a command
command_reads : (c : Said) (args : List (List ℕ)) → AllZip IsWord (fields c) args → command (name c ∷ args) ≡ Some c
command_reads (Format kinds rate sitting) (k ∷ r ∷ s ∷ []) w =
    rw (kinds_reads kinds k w.0, field_reads 0 4294967295 rate r w.1.0, field_reads 0 4294967295 sitting s w.1.1.0) refl
command_reads (Format kinds rate sitting) _ w = absurd (search rules)
command_reads Mount [] w = refl
command_reads Mount _ w = absurd (search rules)
command_reads Arm [] w = refl
command_reads Arm _ w = absurd (search rules)
command_reads (Begin track position) (t ∷ p ∷ []) w =
    rw (field_reads 0 255 track t w.0, field_reads 0 4294967295 position p w.1.0) refl
command_reads (Begin track position) _ w = absurd (search rules)
command_reads (Sound take samples) (t ∷ words) w =
    rw (field_reads 0 4294967295 take t w.0, each_reads sample Sample sample_reads samples words w.1) refl
command_reads (Sound take samples) [] w = absurd w
command_reads (Mark take mark) (t ∷ k ∷ p ∷ e ∷ []) w =
    rw (field_reads 0 4294967295 take t w.0, field_reads 0 4294967295 mark.tick k w.1.0, field_reads 0 65535 mark.point p w.1.1.0, field_reads 0 255 mark.event e w.1.1.1.0) refl
command_reads (Mark take mark) _ w = absurd (search rules)
command_reads (End take) (t ∷ []) w = rw (field_reads 0 4294967295 take t w.0) refl
command_reads (End take) _ w = absurd (search rules)
command_reads (Withdraw track) (t ∷ []) w = rw (field_reads 0 255 track t w.0) refl
command_reads (Withdraw track) _ w = absurd (search rules)
command_reads (Play track) (t ∷ []) w = rw (field_reads 0 255 track t w.0) refl
command_reads (Play track) _ w = absurd (search rules)
command_reads Save [] w = refl
command_reads Save _ w = absurd (search rules)
command_reads (Cut plan) words w = rw (each_reads byte byte_field (field_reads 0 255) plan words w) refl
command_reads (Fuse count) (n ∷ []) w =
    let some : nat_lt 0 count ≡ true = grind (arith, nat_tests) in
    rw (field_reads 1 4294967295 count n w.0, some) refl
command_reads (Fuse count) _ w = absurd (search rules)

-- a byte of a word: ASCII, and no space
abbrev is_clean : ℕ → Bool
is_clean byte = nat_lt byte 128 && not (byte == 32)

abbrev Clean : List ℕ → Type 0
Clean word = list_all is_clean word ≡ true

digits_clean : (digits : List ℕ) → list_all is_digit digits ≡ true → Clean digits
digits_clean [] h = refl
digits_clean (digit ∷ digits) h =
    let parts = and_parts (is_digit digit) (list_all is_digit digits) h in
    let first : is_clean digit ≡ true = grind (arith, nat_tests) in
    and_from _ _ first (digits_clean digits parts.1)

numeral_clean : (word : List ℕ) (n : ℕ) → Writes word n → Clean word
numeral_clean word n w = digits_clean word (and_parts (nat_lt 0 (length word)) (list_all is_digit word) w.0).1

letters_clean : (ks : List Kind) → Clean (map letter ks)
letters_clean [] = refl
letters_clean (SoundKind ∷ ks) = letters_clean ks
letters_clean (MarkKind ∷ ks) = letters_clean ks

word_clean : (field : Field) (word : List ℕ) → IsWord field word → Clean word
word_clean (Number least most n) word w = numeral_clean word n w.2
word_clean (Sample (pos n)) word w = numeral_clean word n w.1
word_clean (Sample (negsuc n)) word w = subst Clean (sym w.2) (numeral_clean w.1 (suc n) w.3)
word_clean (Letters ks) word w = subst Clean (sym w.1) (letters_clean ks)

args_clean : (fs : List Field) (args : List (List ℕ)) → AllZip IsWord fs args → AllByRecursion Clean args
args_clean [] [] w = tt
args_clean [] (word ∷ words) w = absurd w
args_clean (field ∷ fs) [] w = absurd w
args_clean (field ∷ fs) (word ∷ words) w = (word_clean field word w.0, args_clean fs words w.1)

name_clean : (c : Said) → Clean (name c)
name_clean (Format kinds rate sitting) = refl
name_clean Mount = refl
name_clean Arm = refl
name_clean (Begin track position) = refl
name_clean (Sound take samples) = refl
name_clean (Mark take mark) = refl
name_clean (End take) = refl
name_clean (Withdraw track) = refl
name_clean (Play track) = refl
name_clean Save = refl
name_clean (Cut plan) = refl
name_clean (Fuse count) = refl

-- what is joined of clean words
no_space_by_recursion : (word : List ℕ) → Clean word → AllByRecursion (λ byte. (byte == 32) ≡ false) word
no_space_by_recursion [] h = tt
no_space_by_recursion (byte ∷ bytes) h =
    let parts = and_parts (is_clean byte) (list_all is_clean bytes) h in
    let first : (byte == 32) ≡ false = grind (arith, nat_tests) in
    (first, no_space_by_recursion bytes parts.1)

no_space : (word : List ℕ) → Clean word → All (λ byte. (byte == 32) ≡ false) word
no_space word h = All-from_recursion _ word (no_space_by_recursion word h)

words_joined : (word : List ℕ) (more : List (List ℕ)) → Clean word → AllByRecursion Clean more → words (join_with_byte 32 (word ∷ more)) ≡ word ∷ more
words_joined word [] h hs = slice_split_none _ word (no_space word h)
words_joined word (next ∷ more) h hs =
    slice_split_at _ word 32 (join_with_byte 32 (next ∷ more)) (no_space word h) refl ∙ ap (λ ws. word ∷ ws) (words_joined next more hs.0 hs.1)

ascii : (word : List ℕ) → Clean word → list_all (λ byte. nat_lt byte 128) word ≡ true
ascii [] h = refl
ascii (byte ∷ bytes) h =
    let parts = and_parts (is_clean byte) (list_all is_clean bytes) h in
    let first : nat_lt byte 128 ≡ true = (and_parts (nat_lt byte 128) (not (byte == 32)) parts.0).0 in
    and_from _ _ first (ascii bytes parts.1)

ascii_joined : (word : List ℕ) (more : List (List ℕ)) → Clean word → AllByRecursion Clean more → list_all (λ byte. nat_lt byte 128) (join_with_byte 32 (word ∷ more)) ≡ true
ascii_joined word [] h hs = ascii word h
ascii_joined word (next ∷ more) h hs =
    list_all-append (λ byte. nat_lt byte 128) word (32 ∷ join_with_byte 32 (next ∷ more)) ∙ and_from _ _ (ascii word h) (ascii_joined next more hs.0 hs.1)

pub reads : (line : List ℕ) (c : Said) → Says line c → meaning line ≡ Some c
reads line c h =
    let clean = args_clean (fields c) h.args h.each in
    let all_ascii : list_all (λ byte. nat_lt byte 128) line ≡ true = subst (λ l. list_all (λ byte. nat_lt byte 128) l ≡ true) (sym h.joined) (ascii_joined (name c) h.args (name_clean c) clean) in
    let short : nat_le (length line) 2048 ≡ true = grind (arith, nat_tests) in
    let plain : is_plain line ≡ true = and_from _ _ short all_ascii in
    let split : words line ≡ name c ∷ h.args = ap words h.joined ∙ words_joined (name c) h.args (name_clean c) clean in
    rw plain (ap command split ∙ command_reads c h.args h.each)

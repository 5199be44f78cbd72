-- What means a command says that command by the rules.
use Rattle.std.proofs.Common.{◌≡◌, ℕ, suc, zero, ◌<◌, ◌≤◌, Bool, true, false, ◌&&◌, cond, List, [], ◌∷◌, map, length, ℤ, pos, negsuc, Option, Some, None, eqb, nat_lt, nat_le, codes, refl, sym, ◌∙◌, ap, subst, arith}
use Rattle.std.specs.List.{AllZip, join_with_byte}
use Rattle.std.specs.Option.{option_map}
use Rattle.std.specs.Str.{bytes_eq}
use Rattle.std.proofs.lemmas.Bool.{and_parts, eqb-true}
use Rattle.std.proofs.Math.Dec.{eqb-suc-zero}
use Rattle.std.proofs.lemmas.List.{length-map}
use Rattle.std.proofs.lemmas.Bool.Decides.{nat_tests}
use Rattle.std.proofs.lemmas.Option.{cond_some, option_and_then_some, same_Some}
use Rattle.std.proofs.lemmas.List.Splits.{join_with_byte-slice_split}
use Rattle.std.proofs.lemmas.Slice.Eq.{bytes_eq-Decides}
use Rattle.element.specs.declared.kind.Kind.{Kind}
use Rattle.element.specs.declared.kind.Kind.TheVariants.{Sound as SoundKind, Mark as MarkKind}
use Rattle.script.specs.Said.{Said, Format, Mount, Arm, Begin, Sound, Mark, End, Withdraw, Play, Save, Cut, Fuse}
use Rattle.script.specs.Numbers.{is_numeral, value, natural, negative, sample, byte, two_bytes, four_bytes}
use Rattle.script.specs.Meaning.{one, each, kind, kinds, format, alone, begin, sound, mark, cut, fuse, command, words, is_plain, meaning}
use Rattle.script.specs.Grammar.{Field, Number, Sample, Letters, letter, Writes, IsWord, byte_field, name, fields, Says}

-- a choice that is not nothing
chosen : {A : Type 0} (b : Bool) (x : Option A) (y : A) → cond b x None ≡ Some y → (b ≡ true) × (x ≡ Some y)
chosen true x y h = (refl, h)
chosen false x y h = absurd (cc)

-- one choice or the other
either : {A P : Type 0} (b : Bool) (x y z : A) → cond b x y ≡ z → (b ≡ true → x ≡ z → P) → (b ≡ false → y ≡ z → P) → P
either true x y z h f g = f refl h
either false x y z h f g = g refl h

map_some : {A B P : Type 0} (f : A → B) (o : Option A) (y : B) → option_map f o ≡ Some y → ((x : A) → o ≡ Some x → f x ≡ y → P) → P
map_some f None y h k = absurd (cc)
map_some f (Some x) y h k = k x refl (same_Some _ y h)

-- numbers
natural_says : (most : ℕ) (word : List ℕ) (n : ℕ) → natural most word ≡ Some n → (n ≤ most) × Writes word n
natural_says most word n h =
    let g = cond_some (is_numeral word && nat_le (value word) most) (value word) n h in
    let b = and_parts (is_numeral word) (nat_le (value word) most) g.0 in
    let e : value word ≡ n = g.1 in
    let small : value word ≤ most = grind (arith, nat_tests) in
    (omega arith, (b.0, e))

field_says : (most : ℕ) (word : List ℕ) (n : ℕ) → natural most word ≡ Some n → IsWord (Number 0 most n) word
field_says most word n h = let s = natural_says most word n h in (omega arith, s.0, s.1)

negative_says : (n : ℕ) (z : ℤ) (digits : List ℕ) → negative n ≡ Some z → n ≤ 32768 → Writes digits n → IsWord (Sample z) (45 ∷ digits)
negative_says zero z digits h small w = absurd (cc)
negative_says (suc n) z digits h small w =
    let e : negsuc n ≡ z = same_Some (negsuc n) z (rw eqb-suc-zero at h) in
    subst (λ y. IsWord (Sample y) (45 ∷ digits)) e (omega arith, digits, refl, w)

positive_says : (word : List ℕ) (z : ℤ) → option_map pos (natural 32767 word) ≡ Some z → IsWord (Sample z) word
positive_says word z h = map_some pos (natural 32767 word) z h (λ n e k. subst (λ y. IsWord (Sample y) word) k (natural_says 32767 word n e))

sample_says : (word : List ℕ) (z : ℤ) → sample word ≡ Some z → IsWord (Sample z) word
sample_says [] z h = absurd (cc)
sample_says (byte ∷ bytes) z h =
    either (eqb byte 45) _ _ _ h
    (λ minus k. option_and_then_some negative (natural 32768 bytes) z k (λ n e j.
    let s = natural_says 32768 bytes n e in
    subst (λ b. IsWord (Sample z) (b ∷ bytes)) (sym (eqb-true byte 45 minus)) (negative_says n z bytes j s.0 s.1)))
    (λ _ k. positive_says (byte ∷ bytes) z k)

-- each item of a list
each_says : {B : Type 0} (read : List ℕ → Option B) (field : B → Field) → ((word : List ℕ) (x : B) → read word ≡ Some x → IsWord (field x) word) → (words : List (List ℕ)) (xs : List B) → each read words ≡ Some xs → AllZip IsWord (map field xs) words
each_says read field says [] xs h = subst (λ ys. AllZip IsWord (map field ys) []) (same_Some [] xs h) tt
each_says read field says (word ∷ words) xs h =
    option_and_then_some _ (read word) xs h (λ x e k.
    option_and_then_some _ (each read words) xs k (λ ys f j.
    subst (λ zs. AllZip IsWord (map field zs) (word ∷ words)) (same_Some (x ∷ ys) xs j) (says word x e, each_says read field says words ys f)))

kind_says : (byte : ℕ) (k : Kind) → kind byte ≡ Some k → byte ≡ letter k
kind_says byte k h =
    either (eqb byte 115) _ _ _ h
    (λ is j. eqb-true byte 115 is ∙ ap letter (same_Some SoundKind k j))
    (λ _ j. either (eqb byte 109) _ _ _ j
    (λ is i. eqb-true byte 109 is ∙ ap letter (same_Some MarkKind k i))
    (λ _ i. absurd (cc)))

kinds_each : (letters : List ℕ) (ks : List Kind) → each kind letters ≡ Some ks → letters ≡ map letter ks
kinds_each [] ks h = ap (map letter) (same_Some [] ks h)
kinds_each (byte ∷ bytes) ks h =
    option_and_then_some _ (kind byte) ks h (λ k e i.
    option_and_then_some _ (each kind bytes) ks i (λ more f j.
    let first = kind_says byte k e in
    let rest = kinds_each bytes more f in
    let all = same_Some (k ∷ more) ks j in
    subst (λ zs. byte ∷ bytes ≡ map letter zs) all (cc)))

kinds_says : (word : List ℕ) (ks : List Kind) → kinds word ≡ Some ks → IsWord (Letters ks) word
kinds_says word ks h =
    let g = chosen (nat_lt 0 (length word)) (each kind word) ks h in
    let e = kinds_each word ks g.1 in
    let some : 0 < length word = grind (arith, nat_tests) in
    let long : length word ≡ length ks = ap length e ∙ length-map ks letter in
    (omega arith, e)

-- what stands after a name says the fields of the command
record Follows (named : List ℕ) (args : List (List ℕ)) (command : Said) : Type 0 where
  same : name command ≡ named
  each : AllZip IsWord (fields command) args

-- a form with one number
one_says : {P : Type 0} (most : ℕ) (said : ℕ → Said) (args : List (List ℕ)) (command : Said) → option_map said (one (natural most) args) ≡ Some command → ((n : ℕ) → said n ≡ command → AllZip IsWord (Number 0 most n ∷ []) args → P) → P
one_says most said [] command h f = absurd (cc)
one_says most said (word ∷ []) command h f = map_some said (natural most word) command h (λ n e k. f n k (field_says most word n e, tt))
one_says most said (word ∷ more ∷ others) command h f = absurd (cc)

format_says : (args : List (List ℕ)) (command : Said) → format args ≡ Some command → Follows (codes "format") args command
format_says (letters ∷ rate ∷ sitting ∷ []) command h =
    option_and_then_some _ (kinds letters) command h (λ ks e i.
    option_and_then_some _ (four_bytes rate) command i (λ r f j.
    option_and_then_some _ (four_bytes sitting) command j (λ s g k.
    subst (Follows (codes "format") (letters ∷ rate ∷ sitting ∷ [])) (same_Some (Format ks r s) command k)
    (record { same = refl; each = (kinds_says letters ks e, (field_says 4294967295 rate r f, (field_says 4294967295 sitting s g, tt))) }))))
format_says _ command h = absurd (cc)

alone_says : (plain command : Said) (args : List (List ℕ)) → fields plain ≡ [] → alone plain args ≡ Some command → Follows (name plain) args command
alone_says plain command [] none h = subst (Follows (name plain) []) (same_Some plain command h) (record { same = refl; each = subst (λ fs. AllZip IsWord fs []) (sym none) tt })
alone_says plain command (word ∷ words) none h = absurd (cc)

begin_says : (args : List (List ℕ)) (command : Said) → begin args ≡ Some command → Follows (codes "begin") args command
begin_says (track ∷ position ∷ []) command h =
    option_and_then_some _ (byte track) command h (λ t e i.
    option_and_then_some _ (four_bytes position) command i (λ p f j.
    subst (Follows (codes "begin") (track ∷ position ∷ [])) (same_Some (Begin t p) command j)
    (record { same = refl; each = (field_says 255 track t e, (field_says 4294967295 position p f, tt)) })))
begin_says _ command h = absurd (cc)

sound_says : (args : List (List ℕ)) (command : Said) → sound args ≡ Some command → Follows (codes "sound") args command
sound_says (take ∷ samples) command h =
    option_and_then_some _ (four_bytes take) command h (λ t e i.
    option_and_then_some _ (each sample samples) command i (λ xs f j.
    subst (Follows (codes "sound") (take ∷ samples)) (same_Some (Sound t xs) command j)
    (record { same = refl; each = (field_says 4294967295 take t e, each_says sample Sample sample_says samples xs f) })))
sound_says [] command h = absurd (cc)

mark_says : (args : List (List ℕ)) (command : Said) → mark args ≡ Some command → Follows (codes "mark") args command
mark_says (take ∷ tick ∷ point ∷ event ∷ []) command h =
    option_and_then_some _ (four_bytes take) command h (λ t e i.
    option_and_then_some _ (four_bytes tick) command i (λ k f j.
    option_and_then_some _ (two_bytes point) command j (λ p g l.
    option_and_then_some _ (byte event) command l (λ v q m.
    subst (Follows (codes "mark") (take ∷ tick ∷ point ∷ event ∷ [])) (same_Some (Mark t (record { tick = k; point = p; event = v })) command m)
    (record { same = refl; each = (field_says 4294967295 take t e, (field_says 4294967295 tick k f, (field_says 65535 point p g, (field_says 255 event v q, tt)))) })))))
mark_says _ command h = absurd (cc)

cut_says : (args : List (List ℕ)) (command : Said) → cut args ≡ Some command → Follows (codes "cut") args command
cut_says args command h =
    map_some Cut (each byte args) command h (λ plan e i.
    subst (Follows (codes "cut") args) i (record { same = refl; each = each_says byte byte_field (field_says 255) args plan e }))

fuse_says : (args : List (List ℕ)) (command : Said) → fuse args ≡ Some command → Follows (codes "fuse") args command
fuse_says [] command h = absurd (cc)
fuse_says (word ∷ []) command h =
    option_and_then_some _ (four_bytes word) command h (λ n e i.
    let g = cond_some (nat_lt 0 n) (Fuse n) command i in
    let some : 0 < n = grind (arith, nat_tests) in
    let s = natural_says 4294967295 word n e in
    subst (Follows (codes "fuse") (word ∷ [])) g.1 (record { same = refl; each = ((omega arith, s.0, s.1), tt) }))
fuse_says (word ∷ more ∷ others) command h = absurd (cc)

-- a name, or another one
at_name : (found wanted : List ℕ) (args : List (List ℕ)) (command : Said) (x y : Option Said) → cond (bytes_eq found wanted) x y ≡ Some command → (x ≡ Some command → Follows wanted args command) → (y ≡ Some command → Follows found args command) → Follows found args command
at_name found wanted args command x y h f g =
    either (bytes_eq found wanted) x y (Some command) h
    (λ is k. subst (λ n. Follows n args command) (sym ((bytes_eq-Decides found wanted).0 is)) (f k))
    (λ _ k. g k)

command_says : (found : List ℕ) (args : List (List ℕ)) (c : Said) → command (found ∷ args) ≡ Some c → Follows found args c
command_says found args c h =
    at_name found (codes "format") args c _ _ h (format_says args c) (λ h.
    at_name found (codes "mount") args c _ _ h (alone_says Mount c args refl) (λ h.
    at_name found (codes "arm") args c _ _ h (alone_says Arm c args refl) (λ h.
    at_name found (codes "begin") args c _ _ h (begin_says args c) (λ h.
    at_name found (codes "sound") args c _ _ h (sound_says args c) (λ h.
    at_name found (codes "mark") args c _ _ h (mark_says args c) (λ h.
    at_name found (codes "end") args c _ _ h (λ k. one_says 4294967295 End args c k (λ n e w. subst (Follows (codes "end") args) e (record { same = refl; each = w }))) (λ h.
    at_name found (codes "withdraw") args c _ _ h (λ k. one_says 255 Withdraw args c k (λ n e w. subst (Follows (codes "withdraw") args) e (record { same = refl; each = w }))) (λ h.
    at_name found (codes "play") args c _ _ h (λ k. one_says 255 Play args c k (λ n e w. subst (Follows (codes "play") args) e (record { same = refl; each = w }))) (λ h.
    at_name found (codes "save") args c _ _ h (alone_says Save c args refl) (λ h.
    at_name found (codes "cut") args c _ _ h (cut_says args c) (λ h.
    at_name found (codes "fuse") args c _ _ h (fuse_says args c) (λ h. absurd (cc)))))))))))))

words_say : (line : List ℕ) (ws : List (List ℕ)) (c : Said) → length line ≤ 2048 → join_with_byte 32 ws ≡ line → command ws ≡ Some c → Says line c
words_say line [] c short joined h = absurd (cc)
words_say line (found ∷ args) c short joined h =
    let b = command_says found args c h in
    record { args = args; each = b.each; joined = sym joined ∙ ap (λ n. join_with_byte 32 (n ∷ args)) (sym b.same); short = short }

pub says : (line : List ℕ) (c : Said) → meaning line ≡ Some c → Says line c
says line c h =
    let g = chosen (is_plain line) (command (words line)) c h in
    let short : length line ≤ 2048 = grind (arith, nat_tests, g.0) in
    words_say line (words line) c short (join_with_byte-slice_split 32 line) g.1

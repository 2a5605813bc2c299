-- Lemmas of the numbers and of the hexadecimal bytes.
mod Digits
mod Numbers
